use Rattle.std.proofs.Common.{◌≡◌, drop, map}
use Rattle.psac_ops.specs.Named.{values_of}
use Rattle.psac_model.specs.Expression.{in_order}
use Rattle.psac_model.specs.Run.{reference}
use Rattle.psac_plain.specs.Slots.{env_of, after_those}
use Rattle.psac_plain.proofs.ask.destinations_of.Given as goal

abbrev pub invariant-loop-d : goal.invariant-loop-d
invariant-loop-d l =
    after_those (values_of l.all.items) (in_order (map (reference (env_of l.env)) (drop l.d-index l.dests))) ≡ in_order (map (reference (env_of l.env)) l.dests)
