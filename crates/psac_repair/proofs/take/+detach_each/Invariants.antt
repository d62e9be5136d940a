use Rattle.psac_record.specs.Kept.{parts}
use Rattle.psac_record.specs.Shown.{kept_of}
use Rattle.psac_repair.proofs.take.+detach_each.Given as goal

abbrev pub decreases-detach_each : goal.decreases-detach_each
decreases-detach_each a = parts (kept_of a.tree.now)
