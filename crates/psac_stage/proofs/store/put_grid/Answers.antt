use Rattle.std.proofs.Common.{arith}
use Rattle.psac_stage.proofs.Storing.{fixed_same, first_is, placed_grid}
use Rattle.psac_stage.proofs.store.put_grid.Goals as goal

pub put_value-requires-clause-fixed : goal.put_value-requires-clause-fixed
put_value-requires-clause-fixed c =
    let f = c.requires.fixed in
    let e = first_is c.args.grid.now c.room.result c.cols.result c.room.ensures.value c.cols.ensures.value in
    let most = f.2 in
    (f.0, fixed_same c.args.pass.now.knows c.put_cells.new.pass.knows c.put_cells.ensures.same f.0 f.1, omega (arith, e, most))

pub returns-clause-grid : goal.returns-clause-grid
returns-clause-grid c =
    placed_grid c.args.grid.now c.room.ensures.sound c.room.result c.cols.result c.args.outs c.row_count.result c.put_cells.new.pass.knows c.put_value.new.pass.knows c.put_cells.ensures.cells c.room.ensures.value c.cols.ensures.value c.row_count.ensures c.put_value.ensures.stored
