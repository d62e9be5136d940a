use Rattle.psac_repair.proofs.Called.{sides_in_turn, sides_at_once}
use Rattle.psac_repair.proofs.walk.sides_are_repaired.Goals as goal

pub returns-clause-turns : goal.returns-clause-turns
returns-clause-turns c = sides_in_turn

pub returns-clause-sides : goal.returns-clause-sides
returns-clause-sides c = sides_at_once
