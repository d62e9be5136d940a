use Rattle.std.proofs.Common.{arith}
use Rattle.psac_bench.proofs.Cells.{made_rows}
use Rattle.psac_bench.proofs.made.make_grid.Goals as goal

pub widen-requires-clause-rows : goal.widen-requires-clause-rows
widen-requires-clause-rows c =
    let rows = made_rows c.args.cells c.in_ok-grid.grid c.in_ok-grid.ensures in
    omega (arith, rows, c.max.ensures)
