use Rattle.std.proofs.Common.{drop}
use Rattle.psac_slots.specs.Handles.{Member}
use Rattle.psac_trace.proofs.warn.is_among.Given as goal

abbrev pub invariant-loop-old : goal.invariant-loop-old
invariant-loop-old l = record { rest : Member l.m l.olds → Member l.m (drop l.old-index l.olds) }
