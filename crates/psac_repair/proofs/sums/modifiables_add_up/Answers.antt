use Rattle.psac_repair.proofs.Exchanging.{values_in_turn, values_of_sides}
use Rattle.psac_repair.proofs.sums.modifiables_add_up.Goals as goal

pub returns-clause-turns : goal.returns-clause-turns
returns-clause-turns c = values_in_turn

pub returns-clause-sides : goal.returns-clause-sides
returns-clause-sides c = values_of_sides
