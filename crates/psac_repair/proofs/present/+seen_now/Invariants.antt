use Rattle.std.proofs.Common.{length}
use Rattle.psac_repair.proofs.present.+seen_now.Given as goal

abbrev pub decreases-seen_now : goal.decreases-seen_now
decreases-seen_now l = length l.reads.now
