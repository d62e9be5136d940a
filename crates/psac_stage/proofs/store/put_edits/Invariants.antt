use Rattle.std.proofs.Common.{◌≡◌}
use Rattle.psac_stage.specs.Storing.{SameSlots}
use Rattle.psac_stage.proofs.Storing.{Edited}
use Rattle.psac_stage.proofs.store.put_edits.Given as goal

abbrev pub invariant-loop-i : goal.invariant-loop-i
invariant-loop-i l = record {
  table : l.pass.table ≡ l.initial.pass.table;
  same : SameSlots l.initial.pass.knows l.pass.knows;
  edits : Edited l.grid l.batch.edits l.i l.pass.knows;
}
