use Rattle.std.proofs.Common.{◌*◌, ◌+◌, ◌∙◌, map, take, [], ◌∷◌, refl, arith}
use Rattle.psac_stage.specs.Staging.{three, cell_slot}
use Rattle.psac_stage.proofs.Changing.{changes_none, changes_then, changes_by, may_still, slots_more, slots_all, stored_by}
use Rattle.psac_stage.proofs.Storing.{fixed_same, edit_slot, edited_none, edited_next, edited_all}
use Rattle.psac_stage.proofs.stage.change_cells.Goals as goal

pub loop-i-init : goal.loop-i-init
loop-i-init c = record {
  tables = (refl, refl, refl);
  changes = changes_none (three c.args.values.now.knows c.args.readers.now.knows c.args.marks.now.knows);
  edits = edited_none c.args.grid.now c.args.batch.now.edits c.args.values.now.knows c.cols-cols.ensures.sound c.requires.cells;
}

pub overflow_mul-slot : goal.overflow_mul-slot
overflow_mul-slot c =
    let s = edit_slot c.args.grid.now c.cols-cols.ensures.sound c.args.batch.now c.loop-i.i c.edit-edit.result c.cols-cols.result
    c.staged_rows.ensures.sound c.requires.goes c.edit-edit.ensures c.cols-cols.ensures.value in
    omega (arith, s.1)

pub overflow_add-slot : goal.overflow_add-slot
overflow_add-slot c =
    let s = edit_slot c.args.grid.now c.cols-cols.ensures.sound c.args.batch.now c.loop-i.i c.edit-edit.result c.cols-cols.result
    c.staged_rows.ensures.sound c.requires.goes c.edit-edit.ensures c.cols-cols.ensures.value in
    omega (arith, s.1)

pub change-requires-clause-tables : goal.change-requires-clause-tables
change-requires-clause-tables c =
    let t = c.loop-i.invariant.tables in
    let r = c.requires.tables in
    (t.0 ∙ r.0, t.1 ∙ r.1, t.2 ∙ r.2)

pub change-requires-clause-fixed : goal.change-requires-clause-fixed
change-requires-clause-fixed c =
    let f = c.requires.fixed in
    let s = edit_slot c.args.grid.now c.cols-cols.ensures.sound c.args.batch.now c.loop-i.i c.edit-edit.result c.cols-cols.result
    c.staged_rows.ensures.sound c.requires.goes c.edit-edit.ensures c.cols-cols.ensures.value in
    let low = s.0 in
    let most = f.2 in
    (f.0, fixed_same c.args.values.now.knows c.loop-i.values.knows c.loop-i.invariant.changes.same f.0 f.1, omega (arith, low, most))

pub change-requires-clause-may : goal.change-requires-clause-may
change-requires-clause-may c =
    let s = edit_slot c.args.grid.now c.cols-cols.ensures.sound c.args.batch.now c.loop-i.i c.edit-edit.result c.cols-cols.result
    c.staged_rows.ensures.sound c.requires.goes c.edit-edit.ensures c.cols-cols.ensures.value in
    may_still _ _ _ c.loop-i.invariant.changes (c.edit-edit.result.row * c.cols-cols.result + c.edit-edit.result.col) (c.requires.may _ s.0)

pub loop-i-preserved : goal.loop-i-preserved
loop-i-preserved c =
    let t = c.loop-i.invariant.tables in
    let n = c.change.ensures.tables in
    let e = c.edit-edit.result in
    let before = three c.args.values.now.knows c.args.readers.now.knows c.args.marks.now.knows in
    let here = three c.loop-i.values.knows c.loop-i.readers.knows c.loop-i.marks.knows in
    let after = three c.change.new.values.knows c.change.new.readers.knows c.change.new.marks.knows in
    let slot = e.row * c.cols-cols.result + e.col in
    record {
      tables = (n.0 ∙ t.0, n.1 ∙ t.1, n.2 ∙ t.2);
      changes = changes_by _ _ before after (slots_more c.args.grid.now c.args.batch.now.edits c.loop-i.i e c.cols-cols.result
          c.edit-edit.ensures c.cols-cols.ensures.value)
          (changes_then (map (cell_slot c.args.grid.now) (take c.loop-i.i c.args.batch.now.edits)) before here
          c.loop-i.invariant.changes (slot ∷ []) after c.change.ensures.changes);
      edits = edited_next c.args.grid.now c.args.batch.now c.loop-i.i e c.cols-cols.result c.loop-i.values.knows
          c.change.new.values.knows c.staged_rows.ensures.sound c.requires.goes c.edit-edit.ensures c.cols-cols.ensures.value
          (stored_by slot e.value here after c.change.ensures.changes c.change.ensures.has) c.loop-i.invariant.edits;
    }

pub returns-clause-tables : goal.returns-clause-tables
returns-clause-tables c = c.loop-i.invariant.tables

pub returns-clause-changes : goal.returns-clause-changes
returns-clause-changes c =
    let over = c.loop-i-test.false in
    let long = c.len-i-end.ensures in
    changes_by _ _ _ _ (slots_all c.args.grid.now c.args.batch.now.edits c.loop-i.i (omega (arith, over, long))) c.loop-i.invariant.changes

pub returns-clause-cells : goal.returns-clause-cells
returns-clause-cells c =
    let over = c.loop-i-test.false in
    let long = c.len-i-end.ensures in
    edited_all c.args.grid.now c.args.batch.now.edits c.loop-i.i c.loop-i.values.knows (omega (arith, over, long)) c.loop-i.invariant.edits
