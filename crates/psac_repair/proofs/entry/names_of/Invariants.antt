use Rattle.std.proofs.Common.{◌≡◌, ◌++◌, drop}
use Rattle.psac_record.specs.Kept.{env_of as kept_env_of}
use Rattle.psac_plain.specs.Slots.{env_of}
use Rattle.psac_repair.proofs.entry.names_of.Given as goal

abbrev pub invariant-loop-b : goal.invariant-loop-b
invariant-loop-b l = record { copied : env_of l.all.items ++ kept_env_of (drop l.b-index l.env) ≡ kept_env_of l.env }
