use Rattle.std.proofs.Common.{arith}
use Rattle.psac_plain.proofs.Pushed.{cells_pushed}
use Rattle.psac_plain.proofs.begin.push_cells.Goals as goal

pub loop-row-preserved : goal.loop-row-preserved
loop-row-preserved c =
    cells_pushed c.loop-row.heap.items c.push_row.new.heap.items c.args.grid.now c.loop-row.row _ c.room-row-end.ensures.sound (omega (arith, c.loop-row-test.true, c.room-row-end.ensures.value)) c.in_ok-push_row.ensures c.loop-row.invariant
