use Rattle.psac_repair.proofs.Counting.{spent_kept, spent_parts, spent_turns, spent_sides, spent_block, spent_again}
use Rattle.psac_repair.proofs.counts.looks_and_asks_add_up.Goals as goal

pub returns-clause-kept : goal.returns-clause-kept
returns-clause-kept c = spent_kept

pub returns-clause-parts : goal.returns-clause-parts
returns-clause-parts c = spent_parts

pub returns-clause-turns : goal.returns-clause-turns
returns-clause-turns c = spent_turns

pub returns-clause-sides : goal.returns-clause-sides
returns-clause-sides c = spent_sides

pub returns-clause-block : goal.returns-clause-block
returns-clause-block c = spent_block

pub returns-clause-again : goal.returns-clause-again
returns-clause-again c = spent_again
