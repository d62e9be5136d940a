use Rattle.psac_stage.proofs.First.{first_recorded}
use Rattle.psac_stage.proofs.laws.first_runs_stand.Goals as goal

pub returns : goal.returns
returns c = first_recorded
