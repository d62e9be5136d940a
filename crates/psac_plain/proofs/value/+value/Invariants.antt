use Rattle.std.proofs.Common.{◌≡◌, drop, map}
use Rattle.psac_ops.specs.Named.{values_of}
use Rattle.psac_model.specs.Expression.{value_of, in_order}
use Rattle.psac_plain.specs.Slots.{env_of, setting_by, after_those}
use Rattle.psac_plain.proofs.value.+value.Given as goal

abbrev pub invariant-values-loop-arg : goal.invariant-values-loop-arg
invariant-values-loop-arg l =
    let value_at = value_of (setting_by l.opening) (env_of l.env) in
    after_those (values_of l.all.items) (in_order (map value_at (drop l.arg-index l.args))) ≡ in_order (map value_at l.args)
