use Rattle.psac_repair.proofs.Adding.{made_adds, wrote_adds, inner_adds, rest_adds, turns_add, untried_adds, sides_add}
use Rattle.psac_repair.proofs.laws.told_parts_add_up.Goals as goal

pub returns-clause-made : goal.returns-clause-made
returns-clause-made c = made_adds

pub returns-clause-wrote : goal.returns-clause-wrote
returns-clause-wrote c = wrote_adds

pub returns-clause-inner : goal.returns-clause-inner
returns-clause-inner c = inner_adds

pub returns-clause-rest : goal.returns-clause-rest
returns-clause-rest c = rest_adds

pub returns-clause-turns : goal.returns-clause-turns
returns-clause-turns c = turns_add

pub returns-clause-untried : goal.returns-clause-untried
returns-clause-untried c = untried_adds

pub returns-clause-sides : goal.returns-clause-sides
returns-clause-sides c = sides_add
