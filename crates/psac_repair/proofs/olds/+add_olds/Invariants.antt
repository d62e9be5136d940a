use Rattle.psac_record.specs.Kept.{parts}
use Rattle.psac_record.specs.Shown.{kept_of}
use Rattle.psac_repair.proofs.olds.+add_olds.Given as goal

abbrev pub decreases-add_olds : goal.decreases-add_olds
decreases-add_olds a = parts (kept_of a.tree.now)
