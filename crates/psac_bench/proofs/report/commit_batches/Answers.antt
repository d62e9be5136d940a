use Rattle.std.proofs.Common.{◌∙◌, ap, arith}
use Rattle.psac_inputs.specs.Grid.{Grid}
use Rattle.psac_report.specs.Session.{State}
use Rattle.psac_engine.specs.Engine.{caps_in, grid_in, world_in}
use Rattle.psac_session.specs.State.{state_with}
use Rattle.psac_bench.specs.Totals.{sums_of}
use Rattle.psac_bench.proofs.Steps.{batch_step}
use Rattle.psac_bench.proofs.report.commit_batches.Goals as goal

pub loop-i-preserved : goal.loop-i-preserved
loop-i-preserved g c =
    let e0 = c.args.engine.now in
    let e = c.loop-i.engine in
    let i = c.loop-i.invariant in
    record {
      steps = λ texts.
          batch_step (world_in e0) (world_in e) (caps_in e0) (caps_in e) c.args.counts.cells c.loop-i.i
          (state_with e0 c.args.batch.now texts) (state_with e c.loop-i.batch texts) (state_with e c.stage.new.batch texts) (state_with c.commit.new.engine c.commit.new.batch texts)
          (sums_of c.args.totals.now) (sums_of c.loop-i.totals) (sums_of c.commit.new.totals)
          (i.steps texts) (ap (λ (h : Grid). let s : State = record (state_with e c.loop-i.batch texts) { staged = h } in s) (c.in_ok-stage.ensures.staged (grid_in e)))
          i.world i.caps (c.in_ok-commit.ensures.step texts);
      goes = c.in_ok-commit.ensures.goes;
      rows = c.in_ok-commit.ensures.rows ∙ c.in_ok-stage.ensures.rows;
      cols = c.in_ok-commit.ensures.cols ∙ c.in_ok-stage.ensures.cols;
      few = omega (arith, c.commit.ensures.commits, i.few);
      counted = omega (arith, c.in_ok-commit.ensures.counted, i.counted);
      world = c.commit.ensures.world ∙ i.world;
      caps = c.commit.ensures.caps ∙ i.caps;
    }
