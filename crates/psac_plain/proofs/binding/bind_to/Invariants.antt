use Rattle.std.proofs.Common.{◌≡◌, drop, take, length, ◌++◌}
use Rattle.psac_ops.specs.Named.{value_of}
use Rattle.psac_model.specs.Names.{bind}
use Rattle.psac_plain.specs.Slots.{env_of}
use Rattle.psac_plain.proofs.binding.bind_to.Given as goal

abbrev pub invariant-loop-i : goal.invariant-loop-i
invariant-loop-i l =
    record {
      found : env_of (take l.i l.env.items) ++ bind l.name (value_of l.value) (env_of (drop l.i l.env.items)) ≡ bind l.name (value_of l.value) (env_of l.initial.env.items);
      count : l.count ≡ length l.env.items;
    }
