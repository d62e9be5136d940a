use Rattle.std.proofs.Common.{refl, Ok}
use Rattle.psac_engine.specs.Engine.{caps_in, grid_in, kept_in, world_in}
use Rattle.psac_report.specs.Session.{Worked}
use Rattle.psac_bench.specs.Totals.{sums_of}
use Rattle.psac_bench.proofs.Steps.{cols_same, counted, counted_failed, fault_is_other, full_is_other}
use Rattle.psac_bench.proofs.report.commit.Goals as goal

pub returns-in-Ok-clause-step : goal.returns-in-Ok-clause-step
returns-in-Ok-clause-step g c = λ texts.
    let old = c.args.engine.now in
    let new = c.commit.new.self in
    counted (world_in old) (caps_in old) (grid_in old) (grid_in new) texts (kept_in old) (kept_in new) c.args.batch.now c.commit.new.batch
    (Ok c.in-Ok.work) (Worked c.in-Ok.work) (sums_of c.args.totals.now) (sums_of c.count.new.self)
    c.commit.ensures.grid c.commit.ensures.batch c.in-Ok.ensures.answer c.in-Ok.ensures.kept refl c.count.ensures.value

pub returns-in-Ok-clause-cols : goal.returns-in-Ok-clause-cols
returns-in-Ok-clause-cols g c =
    cols_same c.args.batch.now c.commit.new.batch (grid_in c.args.engine.now) (grid_in c.commit.new.self) c.requires.goes c.commit.ensures.grid c.commit.ensures.batch

pub returns-in-Err-Fault-clause-step : goal.returns-in-Err-Fault-clause-step
returns-in-Err-Fault-clause-step g c = λ texts.
    let old = c.args.engine.now in
    let new = c.commit.new.self in
    counted_failed (world_in old) (caps_in old) (grid_in old) (grid_in new) texts (kept_in old) (kept_in new) c.args.batch.now c.commit.new.batch
    c.in-Err-Fault.field-0 (sums_of c.args.totals.now) (sums_of c.count_failed.new.self)
    c.commit.ensures.grid c.commit.ensures.batch c.in-Err-Fault.ensures.answer c.in-Err-Fault.ensures.kept
    (fault_is_other c.in-Err-Fault.field-0 _ _ c.in-Err-Fault.field-0-is) c.count_failed.ensures.value

pub returns-in-Err-Fault-clause-cols : goal.returns-in-Err-Fault-clause-cols
returns-in-Err-Fault-clause-cols g c =
    cols_same c.args.batch.now c.commit.new.batch (grid_in c.args.engine.now) (grid_in c.commit.new.self) c.requires.goes c.commit.ensures.grid c.commit.ensures.batch

pub returns-in-Err-Full-clause-step : goal.returns-in-Err-Full-clause-step
returns-in-Err-Full-clause-step g c = λ texts.
    let old = c.args.engine.now in
    let new = c.commit.new.self in
    counted_failed (world_in old) (caps_in old) (grid_in old) (grid_in new) texts (kept_in old) (kept_in new) c.args.batch.now c.commit.new.batch
    c.in-Err-Full.field-0 (sums_of c.args.totals.now) (sums_of c.count_failed-in-Err-Full.new.self)
    c.commit.ensures.grid c.commit.ensures.batch c.in-Err-Full.ensures.answer c.in-Err-Full.ensures.kept
    (full_is_other c.in-Err-Full.field-0 _ c.in-Err-Full.field-0-is) c.count_failed-in-Err-Full.ensures.value

pub returns-in-Err-Full-clause-cols : goal.returns-in-Err-Full-clause-cols
returns-in-Err-Full-clause-cols g c =
    cols_same c.args.batch.now c.commit.new.batch (grid_in c.args.engine.now) (grid_in c.commit.new.self) c.requires.goes c.commit.ensures.grid c.commit.ensures.batch
