use Rattle.psac_repair.proofs.Founding.{steps_found, turns_found}
use Rattle.psac_repair.proofs.founded.parts_are_founded.Goals as goal

pub returns-clause-steps : goal.returns-clause-steps
returns-clause-steps c = steps_found

pub returns-clause-turns : goal.returns-clause-turns
returns-clause-turns c = turns_found
