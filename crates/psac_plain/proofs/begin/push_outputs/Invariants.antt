use Rattle.std.proofs.Common.{◌≡◌, ◌++◌, drop, length, []}
use Rattle.psac_plain.specs.Slots.{env_of}
use Rattle.psac_plain.specs.Running.{places_of}
use Rattle.psac_plain.specs.Opened.{output_places, output_env}
use Rattle.psac_plain.proofs.begin.push_outputs.Given as goal

abbrev pub invariant-loop-d : goal.invariant-loop-d
invariant-loop-d l =
    record {
      env : output_env (length l.heap.items) (drop l.d-index l.dests) (env_of l.env.items) ≡ output_env (length l.initial.heap.items) l.dests [];
      heap : places_of l.heap.items ++ output_places (drop l.d-index l.dests) ≡ places_of l.initial.heap.items ++ output_places l.dests;
    }
