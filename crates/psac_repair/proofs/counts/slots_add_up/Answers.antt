use Rattle.psac_repair.proofs.Counting.{drawn_kept, drawn_parts, drawn_sides, drawn_stopped, drawn_block, drawn_again}
use Rattle.psac_repair.proofs.counts.slots_add_up.Goals as goal

pub returns-clause-kept : goal.returns-clause-kept
returns-clause-kept c = drawn_kept

pub returns-clause-parts : goal.returns-clause-parts
returns-clause-parts c = drawn_parts

pub returns-clause-sides : goal.returns-clause-sides
returns-clause-sides c = drawn_sides

pub returns-clause-stopped : goal.returns-clause-stopped
returns-clause-stopped c = drawn_stopped

pub returns-clause-block : goal.returns-clause-block
returns-clause-block c = drawn_block

pub returns-clause-again : goal.returns-clause-again
returns-clause-again c = drawn_again
