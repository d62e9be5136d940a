use Rattle.std.proofs.Common.{length}
use Rattle.psac_repair.proofs.olds.+is_bound.Given as goal

abbrev pub decreases-is_bound : goal.decreases-is_bound
decreases-is_bound a = length a.env.now
