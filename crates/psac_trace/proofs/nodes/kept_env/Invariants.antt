use Rattle.std.proofs.Common.{◌≡◌, ◌++◌, drop}
use Rattle.psac_record.specs.Kept.{env_of as kept_env_of}
use Rattle.psac_plain.specs.Slots.{env_of}
use Rattle.psac_trace.proofs.nodes.kept_env.Given as goal

abbrev pub invariant-loop-b : goal.invariant-loop-b
invariant-loop-b l = record { copied : kept_env_of l.all.items ++ env_of (drop l.b-index l.env) ≡ env_of l.env }
