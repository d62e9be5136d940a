use Rattle.std.proofs.Common.{◌≡◌, take}
use Rattle.psac_reclaim.specs.Gave.{Cleaned, slots_of}
use Rattle.psac_reclaim.proofs.part.sweep_all.Given as goal

abbrev pub invariant-loop-seen : goal.invariant-loop-seen
invariant-loop-seen l = (l.pass.table ≡ l.fn.pass.table) × Cleaned (slots_of (take l.seen-index l.reads)) l.fn.pass.knows l.pass.knows
