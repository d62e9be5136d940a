use Rattle.psac_repair.proofs.Founds.{runs_only}
use Rattle.psac_repair.proofs.founded.runs_mark_no_others.Goals as goal

pub returns : goal.returns
returns c = runs_only
