use Rattle.std.proofs.Common.{◌≡◌, fold}
use Rattle.std.specs.List.{range_with_len}
use Rattle.psac_inputs.specs.Batch.{GoesInto, put_all}
use Rattle.psac_inputs.specs.Grid.{Grid}
use Rattle.psac_report.specs.Report.{bench_edit}
use Rattle.psac_bench.proofs.made.stage.Given as goal

pub record invariant-loop-j (l : goal.Live-loop-j) : Type 0 where
  pub staged : (g : Grid) → put_all l.batch g ≡ fold (bench_edit l.cells l.number) (put_all l.fn.batch g) (range_with_len 0 l.j)
  pub goes : (g : Grid) → GoesInto l.fn.batch g → GoesInto l.batch g
  pub rows : l.batch.rows ≡ l.cells
  pub cols : l.batch.cols ≡ 1
