use Rattle.std.proofs.Common.{◌∙◌, arith}
use Rattle.psac_stage.proofs.Storing.{fixed_same, same_then, first_is, first_placed, first_all}
use Rattle.psac_stage.proofs.store.put_cells.Goals as goal

pub put_value-requires-clause-fixed : goal.put_value-requires-clause-fixed
put_value-requires-clause-fixed c =
    let f = c.requires.fixed in
    let e = first_is c.args.grid.now c.room.result c.cols-cols.result c.room.ensures.value c.cols-cols.ensures.value in
    let low = c.loop-slot-test.true in
    let most = f.2 in
    (f.0, fixed_same c.args.pass.now.knows c.loop-slot.pass.knows c.loop-slot.invariant.same f.0 f.1, omega (arith, e, low, most))

pub loop-slot-preserved : goal.loop-slot-preserved
loop-slot-preserved c = record {
  table = c.put_value.ensures.table ∙ c.loop-slot.invariant.table;
  same = same_then c.args.pass.now.knows c.loop-slot.pass.knows c.put_value.new.pass.knows c.loop-slot.invariant.same c.put_value.ensures.stored.same;
  cells = first_placed c.args.grid.now c.room.ensures.sound c.room.result c.cols-cols.result c.loop-slot.slot c.get-value.result c.loop-slot.pass.knows c.put_value.new.pass.knows c.room.ensures.value c.cols-cols.ensures.value c.loop-slot-test.true c.get-value.ensures.value c.put_value.ensures.stored c.loop-slot.invariant.cells;
}

pub returns-clause-cells : goal.returns-clause-cells
returns-clause-cells c =
    first_all c.args.grid.now c.room.ensures.sound c.room.result c.cols-cols.result c.loop-slot.slot c.loop-slot.pass.knows c.room.ensures.value c.cols-cols.ensures.value c.loop-slot-test.false c.loop-slot.invariant.cells
