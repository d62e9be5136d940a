use Rattle.std.proofs.Common.{◌≡◌, ◌+◌, ◌++◌, List, drop, length}
use Rattle.std.specs.Prelude.{All}
use Rattle.csv.specs.Records.{fields_of as fields_in}
use Rattle.psac_ops.specs.declared.plain.Plain.{Plain}
use Rattle.psac_inputs.specs.Grid.{IsCellValue}
use Rattle.psac_inputs.specs.Load.{Begins, fields_of}
use Rattle.psac_inputs.proofs.Records.{joined}
use Rattle.psac_inputs.proofs.load.read_fields.Given as goal

abbrev pub invariant-loop-i : goal.invariant-loop-i
invariant-loop-i l = record {
  told : (row : List Plain) × (l.cells.items ≡ l.fn.cells.items ++ row)
      × (joined row (fields_of l.at (drop l.i (fields_in l.row)) l.texts) ≡ fields_of l.at (fields_in l.row) l.fn.texts);
  begins : Begins l.fn.texts l.texts;
  plain : All IsCellValue l.fn.cells.items → All IsCellValue l.cells.items;
  count : length l.cells.items ≡ length l.fn.cells.items + l.i;
}
