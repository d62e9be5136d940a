use Rattle.std.proofs.Common.{◌≡◌, drop}
use Rattle.psac_model.specs.Series.{with_items}
use Rattle.psac_check.proofs.read.bind_items.Given as goal

abbrev pub invariant-loop-item : goal.invariant-loop-item
invariant-loop-item l = with_items (drop l.item-index l.items) l.scope ≡ with_items l.items l.initial.scope
