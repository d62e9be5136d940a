use Rattle.psac_record.specs.Kept.{parts}
use Rattle.psac_record.specs.Shown.{kept_of}
use Rattle.psac_record.proofs.size.+count.Given as goal

abbrev pub decreases-count : goal.decreases-count
decreases-count a = parts (kept_of a.tree.now)
