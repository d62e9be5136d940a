use Rattle.std.proofs.Common.{◌≡◌, length}
use Rattle.psac_trace.specs.Asking.{SeenFirst, looked_by}
use Rattle.psac_trace.proofs.ask.look_at.Given as goal

abbrev pub invariant-loop-i : goal.invariant-loop-i
invariant-loop-i l = record {
  table : l.pass.table ≡ l.values;
  looked : l.pass.knows ≡ looked_by l.i l.initial.pass.knows;
  count : l.count ≡ length l.all.items;
  seen : SeenFirst l.initial.pass.knows l.i l.initial.all.items l.all.items;
}
