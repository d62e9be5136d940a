use Rattle.std.proofs.Common.{◌∙◌, ◌+◌, Some, pos, ap, sym, subst, arith}
use Rattle.psac_ops.specs.declared.plain.Plain.TheVariants.{Int}
use Rattle.psac_plain.specs.Opened.{first_output}
use Rattle.psac_repair.specs.Going.{views}
use Rattle.psac_stage.specs.Places.{fixed_slots}
use Rattle.psac_stage.specs.Holding.{value_in}
use Rattle.psac_stage.specs.Staging.{three, MayChange}
use Rattle.psac_stage.specs.Storing.{HasCells}
use Rattle.psac_stage.proofs.Changing.{changes_then, changes_by, may_still}
use Rattle.psac_stage.proofs.Restaged.{may_here, all_changed, cells_low, changed_is}
use Rattle.psac_stage.proofs.Storing.{fixed_same, first_put, room_goes, cols_goes, put_cells_same}
use Rattle.psac_stage.proofs.stage.stage_batch.Goals as goal

pub change_cells-requires-clause-may : goal.change_cells-requires-clause-may
change_cells-requires-clause-may c s low =
    let all = c.requires.all in
    let kept = c.requires.recorded in
    may_here c.args.grid.now c.args.outs all.0 all.1 (views c.args.pass) all.2 kept.1 kept.3.nodes kept.3.links s (omega (arith, low))

pub change_rows-requires-clause-fixed : goal.change_rows-requires-clause-fixed
change_rows-requires-clause-fixed c =
    let first = first_put c.net.new.self c.args.grid.now c.put_all.new.self c.put_all.ensures in (
      fixed_slots c.args.grid.now c.args.outs,
      fixed_same c.args.pass.values.knows c.change_cells.new.values.knows
          c.change_cells.ensures.changes.same _ c.requires.all.2.fixed,
      omega (arith, first),
    )

pub change_rows-requires-clause-small : goal.change_rows-requires-clause-small
change_rows-requires-clause-small c =
    let first = first_put c.net.new.self c.args.grid.now c.put_all.new.self c.put_all.ensures in
    let fits = c.rows-rows.ensures.sound.fits in
    let few = c.requires.few in
    omega (arith, first, fits, few)

pub change_rows-requires-clause-may : goal.change_rows-requires-clause-may
change_rows-requires-clause-may c =
    let first = first_put c.net.new.self c.args.grid.now c.put_all.new.self c.put_all.ensures in
    let all = c.requires.all in
    let kept = c.requires.recorded in
    let after = three c.change_cells.new.values.knows c.change_cells.new.readers.knows c.change_cells.new.marks.knows in
    let s = first_output c.args.grid.now + c.args.outs in
    subst (λ n. MayChange (n + c.args.outs) after) (sym first)
    (may_still _ (views c.args.pass) after c.change_cells.ensures.changes s
    (may_here c.args.grid.now c.args.outs all.0 all.1 (views c.args.pass) all.2 kept.1 kept.3.nodes kept.3.links s (omega arith)))

pub change_rows-requires-clause-cells : goal.change_rows-requires-clause-cells
change_rows-requires-clause-cells c =
    subst (λ h. HasCells h c.change_cells.new.values.knows) (sym c.put_all.ensures)
    (put_cells_same c.net.new.self c.args.grid.now c.change_cells.new.values.knows c.change_cells.ensures.cells)

pub change_rows-requires-clause-has : goal.change_rows-requires-clause-has
change_rows-requires-clause-has c =
    let first = first_put c.net.new.self c.args.grid.now c.put_all.new.self c.put_all.ensures in
    let s = first_output c.args.grid.now + c.args.outs in
    let goes = c.net.ensures.goes c.requires.goes in
    ap (λ n. value_in (n + c.args.outs) c.change_cells.new.values.knows.mine) first
    ∙ c.change_cells.ensures.changes.words s (λ i. let low = cells_low c.args.grid.now c.net.new.self c.staged_rows.ensures.sound goes
    s i in omega (arith, low))
    ∙ c.requires.all.2.grid.row_count ∙ ap (λ n. Some (Int (pos n))) (sym c.rows-rows.ensures.value)

pub clear-requires-clause-room : goal.clear-requires-clause-room
clear-requires-clause-room c = room_goes _ _ _ (c.net.ensures.goes c.requires.goes) c.put_all.ensures

pub clear-requires-clause-cols : goal.clear-requires-clause-cols
clear-requires-clause-cols c = cols_goes _ _ _ (c.net.ensures.goes c.requires.goes) c.put_all.ensures

pub returns-clause-all : goal.returns-clause-all
returns-clause-all c caps age all =
    let before = views c.args.pass in
    let mid = three c.change_cells.new.values.knows c.change_cells.new.readers.knows c.change_cells.new.marks.knows in
    let after = three c.change_rows.new.values.knows c.change_rows.new.readers.knows c.change_rows.new.marks.knows in
    all_changed c.args.grid.now c.put_all.new.self c.args.outs caps age _ before after
    (changes_then _ before mid c.change_cells.ensures.changes _ after c.change_rows.ensures.changes)
    (first_put c.net.new.self c.args.grid.now c.put_all.new.self c.put_all.ensures) c.change_rows.ensures.has all

pub returns-clause-changes : goal.returns-clause-changes
returns-clause-changes c =
    let before = views c.args.pass in
    let mid = three c.change_cells.new.values.knows c.change_cells.new.readers.knows c.change_cells.new.marks.knows in
    let after = three c.change_rows.new.values.knows c.change_rows.new.readers.knows c.change_rows.new.marks.knows in
    changes_by _ _ before after
    (changed_is c.args.grid.now c.put_all.new.self c.args.outs c.rows-rows.result c.args.batch.now c.net.new.self c.net.ensures.left
    c.put_all.ensures c.rows-rows.ensures.value)
    (changes_then _ before mid c.change_cells.ensures.changes _ after c.change_rows.ensures.changes)
