use Rattle.std.proofs.Common.{◌∙◌, ◌+◌, ◌*◌, [], sym}
use Rattle.psac_plain.specs.Opened.{first_output}
use Rattle.psac_stage.specs.Staging.{three}
use Rattle.psac_stage.proofs.Changing.{changes_none, changes_by, stored_by}
use Rattle.psac_stage.proofs.Restaged.{rows_same}
use Rattle.psac_stage.proofs.Storing.{placed_grid}
use Rattle.psac_stage.proofs.stage.change_rows.Goals as goal

pub returns-then-rows-clause-changes : goal.returns-then-rows-clause-changes
returns-then-rows-clause-changes c =
    let p = three c.args.values.now.knows c.args.readers.now.knows c.args.marks.now.knows in
    changes_by [] _ p p (rows_same c.args.grid.now.rows c.args.rows (first_output c.args.grid.now + c.args.outs)
    (sym c.rows.ensures.value ∙ c.if-rows.true)) (changes_none p)

pub returns-clause-has : goal.returns-clause-has
returns-clause-has c =
    let before = three c.args.values.now.knows c.args.readers.now.knows c.args.marks.now.knows in
    let after = three c.change.new.values.knows c.change.new.readers.knows c.change.new.marks.knows in
    placed_grid c.args.grid.now c.rows.ensures.sound c.room.result c.cols.result c.args.outs c.row_count-value.result
    c.args.values.now.knows c.change.new.values.knows c.requires.cells c.room.ensures.value c.cols.ensures.value
    c.row_count-value.ensures
    (stored_by (c.room.result * c.cols.result + c.args.outs) c.row_count-value.result before after c.change.ensures.changes
    c.change.ensures.has)
