use Rattle.std.proofs.Common.{length}
use Rattle.psac_repair.proofs.present.+differ.Given as goal

abbrev pub decreases-differ : goal.decreases-differ
decreases-differ l = length l.reads.now
