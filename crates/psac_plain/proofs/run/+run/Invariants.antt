use Rattle.std.proofs.Common.{◌+◌, ◌*◌}
use Rattle.psac_plain.proofs.run.+run.Given as goal

abbrev pub decreases-run_body : goal.decreases-run_body
decreases-run_body l = 3 * l.room

abbrev pub decreases-go_on : goal.decreases-go_on
decreases-go_on l = 3 * l.room + 1

abbrev pub decreases-act_on : goal.decreases-act_on
decreases-act_on l = 3 * l.room + 2
