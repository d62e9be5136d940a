use Rattle.psac_repair.proofs.Wiring.{part_reads, side_reads}
use Rattle.psac_repair.proofs.links.parts_read_what_was_written.Goals as goal

pub returns-clause-part : goal.returns-clause-part
returns-clause-part c = part_reads

pub returns-clause-side : goal.returns-clause-side
returns-clause-side c = side_reads
