use Rattle.std.proofs.Common.{◌≡◌, ◌<◌, ℕ, List, Some}
use Rattle.std.specs.Prelude.{All}
use Rattle.csv.specs.Reading.{Ready, default_config, records, source_of, strip_bom}
use Rattle.csv.specs.declared.reader.Trim.TheVariants as trim
use Rattle.psac_inputs.specs.Grid.{IsCellValue}
use Rattle.psac_inputs.specs.Load.{Begins}
use Rattle.psac_inputs.proofs.CsvRecords.{Going}
use Rattle.psac_inputs.proofs.load.load_csv.Given as goal

abbrev pub invariant-loop-row : goal.invariant-loop-row
invariant-loop-row l = record {
  trim : l.row-iterator.rdr.trim ≡ trim.None;
  ready : Ready l.row-iterator.rdr;
  turns : 0 < l.row-iterator.left;
  config : l.row-iterator.rdr.config ≡ default_config;
  going : (ys : List ℕ) × (source_of (λ s. Some s.now) l.row-iterator.rdr ≡ Some ys)
      × Going l.cols l.at l.cells.items l.row-iterator.rdr.state ys l.texts (records default_config (strip_bom l.fn.bytes)) l.fn.texts;
  plain : All IsCellValue l.cells.items;
  begins : Begins l.fn.texts l.texts;
}
