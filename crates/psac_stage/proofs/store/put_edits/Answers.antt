use Rattle.std.proofs.Common.{◌∙◌, arith}
use Rattle.psac_stage.proofs.Storing.{fixed_same, same_then, edit_slot, edited_none, edited_next, edited_all, same_none}
use Rattle.psac_stage.proofs.store.put_edits.Goals as goal

pub overflow_mul-edit : goal.overflow_mul-edit
overflow_mul-edit c =
    let s = edit_slot c.args.grid.now c.cols-cols.ensures.sound c.args.batch.now c.loop-i.i c.edit-edit.result c.cols-cols.result c.staged_rows.ensures.sound c.requires.goes c.edit-edit.ensures c.cols-cols.ensures.value in
    omega (arith, s.1)

pub overflow_add-edit : goal.overflow_add-edit
overflow_add-edit c =
    let s = edit_slot c.args.grid.now c.cols-cols.ensures.sound c.args.batch.now c.loop-i.i c.edit-edit.result c.cols-cols.result c.staged_rows.ensures.sound c.requires.goes c.edit-edit.ensures c.cols-cols.ensures.value in
    omega (arith, s.1)

pub put_value-requires-clause-fixed : goal.put_value-requires-clause-fixed
put_value-requires-clause-fixed c =
    let f = c.requires.fixed in
    let s = edit_slot c.args.grid.now c.cols-cols.ensures.sound c.args.batch.now c.loop-i.i c.edit-edit.result c.cols-cols.result c.staged_rows.ensures.sound c.requires.goes c.edit-edit.ensures c.cols-cols.ensures.value in
    let low = s.0 in
    let most = f.2 in
    (f.0, fixed_same c.args.pass.now.knows c.loop-i.pass.knows c.loop-i.invariant.same f.0 f.1, omega (arith, low, most))

pub loop-i-init : goal.loop-i-init
loop-i-init c = record {
  table = λ i. c.args.pass.now.table;
  same = same_none c.args.pass.now.knows;
  edits = edited_none c.args.grid.now c.args.batch.now.edits c.args.pass.now.knows c.cols-cols.ensures.sound c.requires.cells;
}

pub loop-i-preserved : goal.loop-i-preserved
loop-i-preserved c = record {
  table = c.put_value.ensures.table ∙ c.loop-i.invariant.table;
  same = same_then c.args.pass.now.knows c.loop-i.pass.knows c.put_value.new.pass.knows c.loop-i.invariant.same c.put_value.ensures.stored.same;
  edits = edited_next c.args.grid.now c.args.batch.now c.loop-i.i c.edit-edit.result c.cols-cols.result c.loop-i.pass.knows c.put_value.new.pass.knows c.staged_rows.ensures.sound c.requires.goes c.edit-edit.ensures c.cols-cols.ensures.value c.put_value.ensures.stored c.loop-i.invariant.edits;
}

pub returns-clause-cells : goal.returns-clause-cells
returns-clause-cells c =
    let over = c.loop-i-test.false in
    let long = c.len-i-end.ensures in
    edited_all c.args.grid.now c.args.batch.now.edits c.loop-i.i c.loop-i.pass.knows (omega (arith, over, long)) c.loop-i.invariant.edits
