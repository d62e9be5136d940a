use Rattle.std.proofs.Common.{ap, ◌+◌, ◌*◌, arith}
use Rattle.psac_engine.proofs.Mains.{ground_is}
use Rattle.psac_stage.proofs.Storing.{first_is}
use Rattle.psac_engine.proofs.trace.ground.Goals as goal

pub overflow_add-slot : goal.overflow_add-slot
overflow_add-slot c =
    let e = first_is c.args.grid.now c.room.result c.cols.result c.room.ensures.value c.cols.ensures.value in
    let small = c.requires in
    omega (arith, e, small)

pub invariant_of-result : goal.invariant_of-result
invariant_of-result c =
    let e = first_is c.args.grid.now c.room-2.result c.cols-2.result c.room-2.ensures.value c.cols-2.ensures.value in
    let fits = c.cols-2.ensures.sound.fits in
    record { few = omega (arith, e, fits) }

pub returns : goal.returns
returns c texts =
    let e = first_is c.args.grid.now c.room.result c.cols.result c.room.ensures.value c.cols.ensures.value in
    ground_is c.args.grid.now texts c.args.outs c.opened.result c.room-2.result c.cols-2.result (c.room.result * c.cols.result + c.args.outs) c.opened.ensures.value c.room-2.ensures.value c.cols-2.ensures.value (ap (λ k. k + c.args.outs) e)
