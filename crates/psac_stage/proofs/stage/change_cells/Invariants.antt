use Rattle.std.proofs.Common.{◌≡◌, map, take}
use Rattle.psac_stage.specs.Staging.{three, cell_slot, Changes}
use Rattle.psac_stage.proofs.Storing.{Edited}
use Rattle.psac_stage.proofs.stage.change_cells.Given as goal

abbrev pub invariant-loop-i : goal.invariant-loop-i
invariant-loop-i l = record {
  tables : (l.values.table ≡ l.initial.values.table) × (l.readers.table ≡ l.initial.readers.table) ×
      (l.marks.table ≡ l.initial.marks.table);
  changes : Changes (map (cell_slot l.grid) (take l.i l.batch.edits))
      (three l.initial.values.knows l.initial.readers.knows l.initial.marks.knows) (three l.values.knows l.readers.knows l.marks.knows);
  edits : Edited l.grid l.batch.edits l.i l.values.knows;
}
