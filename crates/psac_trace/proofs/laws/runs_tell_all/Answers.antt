use Rattle.psac_trace.proofs.Following.{runs_tell}
use Rattle.psac_trace.proofs.laws.runs_tell_all.Goals as goal

pub returns : goal.returns
returns c = runs_tell
