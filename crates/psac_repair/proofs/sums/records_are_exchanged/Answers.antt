use Rattle.psac_repair.proofs.Exchanging.{exchanged_kept, exchanged_made, exchanged_wrote, exchanged_parts, exchanged_sides, exchanged_block, exchanged_again}
use Rattle.psac_repair.proofs.sums.records_are_exchanged.Goals as goal

pub returns-clause-kept : goal.returns-clause-kept
returns-clause-kept c = exchanged_kept

pub returns-clause-made : goal.returns-clause-made
returns-clause-made c = exchanged_made

pub returns-clause-wrote : goal.returns-clause-wrote
returns-clause-wrote c = exchanged_wrote

pub returns-clause-parts : goal.returns-clause-parts
returns-clause-parts c = exchanged_parts

pub returns-clause-sides : goal.returns-clause-sides
returns-clause-sides c = exchanged_sides

pub returns-clause-block : goal.returns-clause-block
returns-clause-block c = exchanged_block

pub returns-clause-again : goal.returns-clause-again
returns-clause-again c = exchanged_again
