use Rattle.std.proofs.Common.{◌≡◌, take, drop}
use Rattle.psac_model.specs.Series.{items_wrong, with_items}
use Rattle.psac_check.proofs.read.read_items.Given as goal

abbrev pub invariant-loop-i : goal.invariant-loop-i
invariant-loop-i l =
    items_wrong l.scope l.written (with_items (take l.i l.items) l.scope) (drop l.i l.items) ≡ items_wrong l.scope l.written l.scope l.items
