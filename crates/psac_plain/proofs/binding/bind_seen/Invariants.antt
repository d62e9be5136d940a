use Rattle.std.proofs.Common.{◌≡◌, drop}
use Rattle.psac_model.specs.Run.{with_reads}
use Rattle.psac_plain.specs.Slots.{env_of}
use Rattle.psac_plain.specs.Running.{reads_view}
use Rattle.psac_plain.proofs.binding.bind_seen.Given as goal

abbrev pub invariant-loop-i : goal.invariant-loop-i
invariant-loop-i l =
    with_reads (env_of l.env.items) (drop l.i l.items) (reads_view (drop l.i l.seen)) ≡ with_reads (env_of l.initial.env.items) l.items (reads_view l.seen)
