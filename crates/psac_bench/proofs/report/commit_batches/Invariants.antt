use Rattle.std.proofs.Common.{◌≡◌, ◌≤◌, ◌+◌, fold}
use Rattle.std.specs.List.{range_with_len}
use Rattle.psac_inputs.specs.Batch.{GoesInto}
use Rattle.psac_inputs.specs.Texts.{Texts}
use Rattle.psac_report.specs.Report.{bench_commit}
use Rattle.psac_engine.specs.Engine.{caps_in, commits_in, grid_in, world_in}
use Rattle.psac_session.specs.State.{state_with}
use Rattle.psac_bench.specs.Totals.{commits_of, sums_of}
use Rattle.psac_bench.proofs.report.commit_batches.Given as goal

pub record invariant-loop-i (g : goal.Over) (l : goal.Live-loop-i g) : Type 0 where
  pub steps : (texts : Texts)
      → fold (bench_commit (world_in l.fn.engine) (caps_in l.fn.engine) l.counts.cells) (state_with l.fn.engine l.fn.batch texts, sums_of l.fn.totals) (range_with_len 1 l.i)
      ≡ (state_with l.engine l.batch texts, sums_of l.totals)
  pub goes : GoesInto l.batch (grid_in l.engine)
  pub rows : l.batch.rows ≡ l.counts.cells
  pub cols : l.batch.cols ≡ 1
  pub few : commits_in l.engine ≤ l.i + 1
  pub counted : commits_of l.totals ≤ l.i + 1
  pub world : world_in l.engine ≡ world_in l.fn.engine
  pub caps : caps_in l.engine ≡ caps_in l.fn.engine
