use Rattle.std.proofs.Common.{◌≡◌, ◌+◌, drop, []}
use Rattle.psac_plain.specs.Slots.{env_of}
use Rattle.psac_plain.specs.Opened.{output_env}
use Rattle.psac_engine.proofs.trace.places.Given as goal

abbrev pub invariant-loop-d : goal.invariant-loop-d
invariant-loop-d l = record {
  slot : l.slot ≡ l.fn.first + l.d-index;
  env : output_env l.slot (drop l.d-index l.dests) (env_of l.env.items) ≡ output_env l.fn.first l.dests [];
}
