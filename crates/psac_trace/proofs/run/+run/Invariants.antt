use Rattle.std.proofs.Common.{◌+◌, ◌-◌, ◌*◌}
use Rattle.psac_model.specs.Fresh.{levels}
use Rattle.psac_trace.proofs.run.+run.Given as goal

abbrev pub decreases-run_body : goal.decreases-run_body
decreases-run_body g l = 8 * (levels - l.level)

abbrev pub decreases-run_block : goal.decreases-run_block
decreases-run_block g l = 8 * (levels - l.level) + 1

abbrev pub decreases-go_on : goal.decreases-go_on
decreases-go_on g l = 8 * (levels - l.level) + 1

abbrev pub decreases-run_new : goal.decreases-run_new
decreases-run_new g l = 8 * (levels - l.level) + 1

abbrev pub decreases-run_put : goal.decreases-run_put
decreases-run_put g l = 8 * (levels - l.level) + 1

abbrev pub decreases-run_inner : goal.decreases-run_inner
decreases-run_inner g l = 8 * (levels - l.level) + 2

abbrev pub decreases-run_read : goal.decreases-run_read
decreases-run_read g l = 8 * (levels - l.level) + 2

abbrev pub decreases-run_sides-both+arg4 : goal.decreases-run_sides-both+arg4
decreases-run_sides-both+arg4 g l = 8 * (levels - l.level) + 2

abbrev pub decreases-run_sides-both+arg5 : goal.decreases-run_sides-both+arg5
decreases-run_sides-both+arg5 g l = 8 * (levels - l.level) + 2

abbrev pub decreases-run_sides : goal.decreases-run_sides
decreases-run_sides g l = 8 * (levels - l.level) + 3

abbrev pub decreases-run_both : goal.decreases-run_both
decreases-run_both g l = 8 * (levels - l.level) + 4

abbrev pub decreases-run_par : goal.decreases-run_par
decreases-run_par g l = 8 * (levels - l.level) + 5

abbrev pub decreases-act_on : goal.decreases-act_on
decreases-act_on g l = 8 * (levels - l.level) + 6
