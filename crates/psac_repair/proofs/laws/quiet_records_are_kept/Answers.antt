use Rattle.psac_repair.proofs.Adding.{quiet_kept}
use Rattle.psac_repair.proofs.laws.quiet_records_are_kept.Goals as goal

pub returns : goal.returns
returns c = quiet_kept
