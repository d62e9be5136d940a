use Rattle.std.proofs.Common.{◌≡◌}
use Rattle.psac_engine.specs.Engine.{caps_in, grid_in, kept_in, world_in}
use Rattle.psac_cert.proofs.Judging.{nothing_put, stopped_verdict, undecided}
use Rattle.psac_cert.proofs.judge.certify.Goals as goal

pub returns-in-Err-Fault-clause-verdict : goal.returns-in-Err-Fault-clause-verdict
returns-in-Err-Fault-clause-verdict g c =
    let e = c.args.engine.now in
    let now = grid_in c.commit.new.self in
    let same : now ≡ grid_in e =
    nothing_put c.in_ok-batch.batch (grid_in e) now c.grid.result.now c.grid.ensures.value
    c.in_ok-batch.ensures.empty c.commit.ensures.grid in
    rw c.in-Err-Fault.field-0-is
    (stopped_verdict (world_in e) (caps_in e) (kept_in e) (grid_in e) now c.args.texts.now c.args.text.now c.in-Err-Fault.kind c.in-Err-Fault.line same
    (rw c.in-Err-Fault.field-0-is at c.in-Err-Fault.ensures.answer))

pub returns-in-Err-Full-clause-undecided : goal.returns-in-Err-Full-clause-undecided
returns-in-Err-Full-clause-undecided g c =
    let e = c.args.engine.now in
    let now = grid_in c.commit.new.self in
    let same : now ≡ grid_in e =
    nothing_put c.in_ok-batch.batch (grid_in e) now c.grid.result.now c.grid.ensures.value
    c.in_ok-batch.ensures.empty c.commit.ensures.grid in
    rw c.in-Err-Full.field-0-is
    (undecided (world_in e) (caps_in e) (kept_in e) (grid_in e) now c.in-Err-Full.which same
    (rw c.in-Err-Full.field-0-is at c.in-Err-Full.ensures.answer))
