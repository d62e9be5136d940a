use Rattle.psac_repair.proofs.Called.{made_goes, wrote_goes, bodies_go, steps_go}
use Rattle.psac_repair.proofs.walk.parts_are_repaired.Goals as goal

pub returns-clause-made : goal.returns-clause-made
returns-clause-made c = made_goes

pub returns-clause-wrote : goal.returns-clause-wrote
returns-clause-wrote c = wrote_goes

pub returns-clause-body : goal.returns-clause-body
returns-clause-body c = bodies_go

pub returns-clause-steps : goal.returns-clause-steps
returns-clause-steps c = steps_go
