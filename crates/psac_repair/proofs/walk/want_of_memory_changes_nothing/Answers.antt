use Rattle.psac_repair.proofs.Layers.{record_wants, part_wants}
use Rattle.psac_repair.proofs.walk.want_of_memory_changes_nothing.Goals as goal

pub returns-clause-record : goal.returns-clause-record
returns-clause-record c = record_wants

pub returns-clause-part : goal.returns-clause-part
returns-clause-part c = part_wants
