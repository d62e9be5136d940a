use Rattle.psac_cut_repair.proofs.Reaching.{reads_in, mended_reads}
use Rattle.psac_cut_repair.proofs.laws.records_read_what_is_there.Goals as goal

pub returns-clause-run : goal.returns-clause-run
returns-clause-run c = reads_in

pub returns-clause-repair : goal.returns-clause-repair
returns-clause-repair c = mended_reads
