use Rattle.std.proofs.Common.{◌≡◌}
use Rattle.psac_stage.specs.Storing.{SameSlots}
use Rattle.psac_stage.proofs.Storing.{HasFirst}
use Rattle.psac_stage.proofs.store.put_cells.Given as goal

abbrev pub invariant-loop-slot : goal.invariant-loop-slot
invariant-loop-slot l = record {
  table : l.pass.table ≡ l.initial.pass.table;
  same : SameSlots l.initial.pass.knows l.pass.knows;
  cells : HasFirst l.grid l.slot l.pass.knows;
}
