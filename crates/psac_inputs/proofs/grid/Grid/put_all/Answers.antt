use Rattle.std.proofs.Common.{arith, ◌≡◌, ◌∙◌, sym, ap, refl, []}
use Rattle.std.specs.Prelude.{drop}
use Rattle.std.proofs.lemmas.List.{drop_all, length-set}
use Rattle.std.proofs.lemmas.List.Elements.{All-set}
use Rattle.psac_inputs.specs.Batch.{with_edits}
use Rattle.psac_inputs.specs.Flat.{shown}
use Rattle.psac_inputs.specs.Grid.{IsCellValue}
use Rattle.psac_inputs.proofs.GridRows.{shown_is_grid}
use Rattle.psac_inputs.proofs.Putting.{flat_put, of_edit, put_place, put_step}
use Rattle.psac_inputs.proofs.grid.Grid.put_all.Goals as goal

pub overflow_mul-at : goal.overflow_mul-at
overflow_mul-at c =
    let place = put_place c.loop-i.self-inside c.args.batch.now c.args.self.now c.loop-i.i c.edit-edit.result c.loop-i.invariant.numbers.1 c.loop-i.invariant.numbers.3 (shown_is_grid c.self.inside c.args.self.now c.self.view_is c.self.invariant) c.staged_rows-rows.ensures.sound c.requires c.edit-edit.ensures in
    omega (arith, place.2, place.3)

pub overflow_add-at : goal.overflow_add-at
overflow_add-at c =
    let place = put_place c.loop-i.self-inside c.args.batch.now c.args.self.now c.loop-i.i c.edit-edit.result c.loop-i.invariant.numbers.1 c.loop-i.invariant.numbers.3 (shown_is_grid c.self.inside c.args.self.now c.self.view_is c.self.invariant) c.staged_rows-rows.ensures.sound c.requires c.edit-edit.ensures in
    omega (arith, place.2, place.3)

pub index_mut-requires : goal.index_mut-requires
index_mut-requires c =
    let place = put_place c.loop-i.self-inside c.args.batch.now c.args.self.now c.loop-i.i c.edit-edit.result c.loop-i.invariant.numbers.1 c.loop-i.invariant.numbers.3 (shown_is_grid c.self.inside c.args.self.now c.self.view_is c.self.invariant) c.staged_rows-rows.ensures.sound c.requires c.edit-edit.ensures in
    omega (arith, place.2, c.loop-i.invariant.whole)

pub loop-i-preserved : goal.loop-i-preserved
loop-i-preserved c =
    let place = put_place c.loop-i.self-inside c.args.batch.now c.args.self.now c.loop-i.i c.edit-edit.result c.loop-i.invariant.numbers.1 c.loop-i.invariant.numbers.3 (shown_is_grid c.self.inside c.args.self.now c.self.view_is c.self.invariant) c.staged_rows-rows.ensures.sound c.requires c.edit-edit.ensures in
    let plain = of_edit (λ e. IsCellValue e.value) c.args.batch.now.edits c.loop-i.i c.edit-edit.result c.staged_rows-rows.ensures.sound.plain c.edit-edit.ensures in
    record {
      whole = length-set c.loop-i.self-inside.cells.items _ _ ∙ c.loop-i.invariant.whole;
      numbers = c.loop-i.invariant.numbers;
      plain = All-set IsCellValue c.loop-i.self-inside.cells.items _ _ plain c.loop-i.invariant.plain;
      told = put_step c.loop-i.self-inside c.args.batch.now.edits c.loop-i.i c.edit-edit.result _ _ place.0 place.1 c.edit-edit.ensures refl c.loop-i.invariant.told;
    }

pub invariant_of-self : goal.invariant_of-self
invariant_of-self c =
    let over : drop c.loop-i.i c.args.batch.now.edits ≡ [] = drop_all c.loop-i.i c.args.batch.now.edits (omega arith) in
    let told : shown c.loop-i.self-inside ≡ with_edits c.args.batch.now.edits c.args.self.now =
    sym (ap (λ es. with_edits es (shown c.loop-i.self-inside)) over) ∙ c.loop-i.invariant.told in
    rw c.staged_rows-rows.ensures.value (flat_put c.loop-i.self-inside c.args.batch.now c.args.self.now told (shown_is_grid c.self.inside c.args.self.now c.self.view_is c.self.invariant) c.staged_rows-rows.ensures.sound c.requires c.loop-i.invariant.whole c.loop-i.invariant.plain)
