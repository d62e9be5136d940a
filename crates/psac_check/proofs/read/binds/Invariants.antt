use Rattle.std.proofs.Common.{◌≡◌, drop, map}
use Rattle.psac_model.specs.Series.{has}
use Rattle.psac_check.proofs.read.binds.Given as goal

abbrev pub invariant-loop-item : goal.invariant-loop-item
invariant-loop-item l = has l.name (map (λ i. i.bound) (drop l.item-index l.items)) ≡ has l.name (map (λ i. i.bound) l.items)
