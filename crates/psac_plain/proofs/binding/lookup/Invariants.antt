use Rattle.std.proofs.Common.{◌≡◌, drop}
use Rattle.psac_model.specs.Names.{bound}
use Rattle.psac_plain.specs.Slots.{env_of}
use Rattle.psac_plain.proofs.binding.lookup.Given as goal

abbrev pub invariant-loop-b : goal.invariant-loop-b
invariant-loop-b l = bound l.name (env_of (drop l.b-index l.env)) ≡ bound l.name (env_of l.env)
