use Rattle.psac_repair.proofs.Wakes.{runs_wake}
use Rattle.psac_repair.proofs.watched.runs_wake_readers.Goals as goal

pub returns : goal.returns
returns c = runs_wake
