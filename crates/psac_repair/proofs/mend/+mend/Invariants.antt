use Rattle.std.proofs.Common.{suc, ◌+◌, ◌*◌}
use Rattle.psac_record.specs.Kept.{parts}
use Rattle.psac_record.specs.Shown.{kept_of}
use Rattle.psac_repair.proofs.mend.+mend.Given as goal

abbrev pub decreases-mend : goal.decreases-mend
decreases-mend g l = 5 * parts (kept_of l.tree)

abbrev pub decreases-mend_step : goal.decreases-mend_step
decreases-mend_step g l = 5 * (parts (kept_of l.inner) + parts (kept_of l.rest)) + 4

abbrev pub decreases-mend_part : goal.decreases-mend_part
decreases-mend_part g l = 5 * parts (kept_of l.part) + 3

abbrev pub decreases-mend_both : goal.decreases-mend_both
decreases-mend_both g l = 5 * suc (parts (kept_of l.left) + parts (kept_of l.right)) + 2

abbrev pub decreases-mend_block : goal.decreases-mend_block
decreases-mend_block g l = 5 * suc (parts (kept_of l.inner)) + 2

abbrev pub decreases-mend_in_turn : goal.decreases-mend_in_turn
decreases-mend_in_turn g l = 5 * suc (parts (kept_of l.left) + parts (kept_of l.right)) + 1

abbrev pub decreases-mend_sides : goal.decreases-mend_sides
decreases-mend_sides g l = 5 * suc (parts (kept_of l.left) + parts (kept_of l.right)) + 1

abbrev pub decreases-mend_at_once : goal.decreases-mend_at_once
decreases-mend_at_once g l = 5 * (parts (kept_of l.left) + parts (kept_of l.right)) + 2

abbrev pub decreases-mend_at_once-both+arg4 : goal.decreases-mend_at_once-both+arg4
decreases-mend_at_once-both+arg4 g l = 5 * parts (kept_of l.left) + 1

abbrev pub decreases-mend_at_once-both+arg5 : goal.decreases-mend_at_once-both+arg5
decreases-mend_at_once-both+arg5 g l = 5 * parts (kept_of l.right) + 1
