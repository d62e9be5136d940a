use Rattle.std.proofs.Common.{arith}
use Rattle.psac_stage.proofs.Storing.{fixed_same, first_is, first_put, room_goes, cols_goes, placed_all}
use Rattle.psac_stage.proofs.store.place.Goals as goal

pub overflow_add-slot : goal.overflow_add-slot
overflow_add-slot c =
    let e = first_is c.put_all.new.self c.room.result c.cols.result c.room.ensures.value c.cols.ensures.value in
    let f = first_put c.net.new.self c.args.grid.now c.put_all.new.self c.put_all.ensures in
    let small = c.requires.small in
    omega (arith, e, f, small)

pub put_value-requires-clause-fixed : goal.put_value-requires-clause-fixed
put_value-requires-clause-fixed c =
    let f = c.requires.fixed in
    let e = first_is c.put_all.new.self c.room.result c.cols.result c.room.ensures.value c.cols.ensures.value in
    let p = first_put c.net.new.self c.args.grid.now c.put_all.new.self c.put_all.ensures in
    let most = f.2 in
    (f.0, fixed_same c.args.pass.now.knows c.put_edits.new.pass.knows c.put_edits.ensures.same f.0 f.1, omega (arith, e, p, most))

pub clear-requires-clause-room : goal.clear-requires-clause-room
clear-requires-clause-room c = room_goes _ _ _ (c.net.ensures.goes c.requires.goes) c.put_all.ensures

pub clear-requires-clause-cols : goal.clear-requires-clause-cols
clear-requires-clause-cols c = cols_goes _ _ _ (c.net.ensures.goes c.requires.goes) c.put_all.ensures

pub returns-clause-has : goal.returns-clause-has
returns-clause-has c =
    placed_all c.net.new.self c.args.grid.now c.put_all.new.self c.room.ensures.sound c.room.result c.cols.result c.args.outs c.row_count.result c.put_edits.new.pass.knows c.put_value.new.pass.knows c.put_all.ensures c.put_edits.ensures.cells c.room.ensures.value c.cols.ensures.value c.row_count.ensures c.put_value.ensures.stored
