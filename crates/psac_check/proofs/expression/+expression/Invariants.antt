use Rattle.std.proofs.Common.{◌≡◌, drop, map}
use Rattle.psac_model.specs.Series.{expr_wrong, first_wrong}
use Rattle.psac_check.proofs.expression.+expression.Given as goal

abbrev pub invariant-expressions-loop-value : goal.invariant-expressions-loop-value
invariant-expressions-loop-value l =
    first_wrong (map (expr_wrong l.scope l.written) (drop l.value-index l.values)) ≡ first_wrong (map (expr_wrong l.scope l.written) l.values)
