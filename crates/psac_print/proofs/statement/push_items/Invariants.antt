use Rattle.std.proofs.Common.{◌≡◌, [], ◌++◌, drop, map}
use Rattle.psac_spelling.specs.Canonical.{item_text, behind}
use Rattle.psac_print.proofs.statement.push_items.Given as goal

abbrev pub invariant-loop-item : goal.invariant-loop-item
invariant-loop-item l =
    l.text.items ++ behind l.before (map (item_text l.program) (drop l.item-index l.items)) ≡ l.initial.text.items ++ behind [] (map (item_text l.program) l.items)
