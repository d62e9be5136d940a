use Rattle.psac_repair.proofs.Exchanging.{swapped_then, swapped_sides, swapped_again}
use Rattle.psac_repair.proofs.sums.nodes_are_swapped.Goals as goal

pub returns-clause-turns : goal.returns-clause-turns
returns-clause-turns c = swapped_then

pub returns-clause-sides : goal.returns-clause-sides
returns-clause-sides c = swapped_sides

pub returns-clause-again : goal.returns-clause-again
returns-clause-again c = swapped_again
