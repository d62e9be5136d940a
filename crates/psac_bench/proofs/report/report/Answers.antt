use Rattle.std.proofs.Common.{◌∙◌, ◌++◌, ap, List, ℕ}
use Rattle.psac_engine.specs.Engine.{caps_in, grid_in, kept_in, world_in}
use Rattle.psac_session.specs.State.{state_with}
use Rattle.psac_bench.specs.Totals.{sums_of}
use Rattle.psac_bench.proofs.Reports.{begins, outputs_are, report_is}
use Rattle.psac_bench.proofs.report.report.Goals as goal

pub returns : goal.returns
returns g c =
    let e0 = c.args.engine.now in
    let e1 = c.commit.new.engine in
    let e2 = c.commit_batches.new.engine in
    let e3 = c.shown_reply.new.engine in
    let texts = c.args.texts.now in
    let b0 = c.in_ok-batch.batch in
    let b2 = c.commit_batches.new.batch in
    let outputs = outputs_are (world_in e0) (world_in e2) (world_in e3) (kept_in e2) c.program.result.now texts c.in_ok-reply.reply c.in_ok-outputs.outputs.items
    (c.commit_batches.ensures.world ∙ c.commit.ensures.world) c.shown_reply.ensures.world c.in_ok-reply.ensures.shown c.program.ensures.world c.in_ok-outputs.ensures in
    report_is (world_in e0) (world_in e1) (caps_in e0) (caps_in e1) (grid_in e0) texts c.args.counts
    (state_with e0 b0 texts) (state_with e1 c.commit.new.batch texts) (state_with e2 b2 texts) (sums_of c.commit.new.totals) (sums_of c.commit_batches.new.totals)
    c.in_ok-text.text.items c.in_ok-outputs.outputs.items _
    (begins e0 b0 texts c.requires.none (rw c.grid.ensures.value at c.in_ok-batch.ensures.empty))
    (rw c.new-totals.ensures at (c.in_ok-commit.ensures.step texts)) c.commit.ensures.world c.commit.ensures.caps (c.in_ok-commit_batches.ensures.steps texts)
    c.in_ok-text.ensures outputs
    (c.in_ok-extend_from_slice.ensures.items ∙ ap (λ (xs : List ℕ). c.in_ok-text.text.items ++ xs) c.deref.ensures.value)
