use Rattle.std.proofs.Common.{◌≡◌, [], ◌++◌, drop, map}
use Rattle.psac_spelling.specs.Canonical.{expr_text, behind}
use Rattle.psac_print.proofs.expression.+expression.Given as goal

abbrev pub invariant-push_exprs-loop-value : goal.invariant-push_exprs-loop-value
invariant-push_exprs-loop-value l =
    l.text.items ++ behind l.before (map (expr_text l.program) (drop l.value-index l.values)) ≡ l.initial.text.items ++ behind [] (map (expr_text l.program) l.values)
