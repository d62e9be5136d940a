use Rattle.std.proofs.Common.{◌≡◌, drop}
use Rattle.psac_ops.specs.Named.{values_of}
use Rattle.psac_model.specs.Run.{bound_to}
use Rattle.psac_plain.specs.Slots.{env_of}
use Rattle.psac_plain.proofs.binding.params_to.Given as goal

abbrev pub invariant-loop-i : goal.invariant-loop-i
invariant-loop-i l =
    bound_to (drop l.i l.names) (values_of (drop l.i l.all)) (env_of l.env.items) ≡ bound_to l.names (values_of l.all) (env_of l.initial.env.items)
