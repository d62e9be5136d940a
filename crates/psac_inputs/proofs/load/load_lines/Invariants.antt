use Rattle.std.proofs.Common.{◌≡◌, ◌+◌, ◌≤◌, length, map}
use Rattle.std.specs.Prelude.{All}
use Rattle.psac_base.specs.Feeds.{lines_of}
use Rattle.psac_inputs.specs.Grid.{IsCellValue}
use Rattle.psac_inputs.specs.Load.{Begins, records_from}
use Rattle.psac_inputs.proofs.Records.{after, one_cell, one_field}
use Rattle.psac_inputs.proofs.load.load_lines.Given as goal

abbrev pub invariant-loop-line : goal.invariant-loop-line
invariant-loop-line l = record {
  told : after (map one_cell l.cells.items) (records_from 1 (length l.cells.items + 1) (map one_field (lines_of l.rest)) l.texts)
      ≡ records_from 1 1 (map one_field (lines_of l.bytes)) l.fn.texts;
  count : length l.cells.items + length (lines_of l.rest) ≡ length (lines_of l.bytes);
  fits : length l.cells.items ≤ 65536;
  plain : All IsCellValue l.cells.items;
  begins : Begins l.fn.texts l.texts;
}

abbrev pub decreases-loop-line : goal.decreases-loop-line
decreases-loop-line l = length l.rest
