use Rattle.std.proofs.Common.{arith}
use Rattle.psac_plain.proofs.Pushed.{row_pushed, row_done}
use Rattle.psac_plain.proofs.begin.push_row.Goals as goal

pub loop-col-preserved : goal.loop-col-preserved
loop-col-preserved c =
    row_pushed c.loop-col.heap.items c.push.new.self.items c.args.grid.now c.args.row c.loop-col.col c.get.result _ c.get.ensures.value c.in_ok-push.ensures.items c.loop-col.invariant

pub returns : goal.returns
returns c =
    row_done c.loop-col.heap.items c.args.grid.now c.args.row c.loop-col.col _ c.cols-col-end.ensures.sound c.requires (omega (arith, c.loop-col-test.false, c.cols-col-end.ensures.value)) c.loop-col.invariant
