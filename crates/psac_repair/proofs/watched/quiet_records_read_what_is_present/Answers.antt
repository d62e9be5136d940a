use Rattle.psac_repair.proofs.Wakes.{quiet_reads}
use Rattle.psac_repair.proofs.watched.quiet_records_read_what_is_present.Goals as goal

pub returns : goal.returns
returns c = quiet_reads
