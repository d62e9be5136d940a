use Rattle.std.proofs.Common.{◌≡◌, Some, map}
use Rattle.psac_engine.specs.Showing.{OnlyLooked, shown_from}
use Rattle.psac_engine.proofs.show.show_slots.Given as goal

abbrev pub invariant-loop-i : goal.invariant-loop-i
invariant-loop-i l = record {
  table : l.pass.table ≡ l.initial.pass.table;
  looked : OnlyLooked l.initial.pass.knows l.pass.knows;
  shown : map (λ x. Some x) l.told.items ≡ shown_from l.first l.i l.initial.pass.knows;
}
