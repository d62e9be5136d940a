use Rattle.psac_check.proofs.Whole.{met_main}
use Rattle.psac_check.proofs.accepted.Checked.program.Goals as goal

pub returns-clause-main : goal.returns-clause-main
returns-clause-main c = (met_main c.self.inside.program c.self.invariant.0).there

pub returns-clause-bare : goal.returns-clause-bare
returns-clause-bare c = (met_main c.self.inside.program c.self.invariant.0).bare
