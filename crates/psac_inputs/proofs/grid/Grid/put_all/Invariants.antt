use Rattle.std.proofs.Common.{◌≡◌, ◌*◌, length, drop}
use Rattle.std.specs.Prelude.{All}
use Rattle.psac_inputs.specs.Batch.{with_edits}
use Rattle.psac_inputs.specs.Flat.{shown}
use Rattle.psac_inputs.specs.Grid.{IsCellValue}
use Rattle.psac_inputs.proofs.grid.Grid.put_all.Given as goal

abbrev pub invariant-loop-i : goal.invariant-loop-i
invariant-loop-i l = record {
  whole : length l.self-inside.cells.items ≡ l.self-inside.room * l.self-inside.cols;
  numbers : (l.self-inside.opened ≡ l.fn.self.opened) × (l.self-inside.room ≡ l.fn.self.room) × (l.self-inside.rows ≡ l.fn.self.rows) × (l.self-inside.cols ≡ l.fn.self.cols);
  plain : All IsCellValue l.self-inside.cells.items;
  told : with_edits (drop l.i l.batch.edits) (shown l.self-inside) ≡ with_edits l.batch.edits l.fn.self;
}
