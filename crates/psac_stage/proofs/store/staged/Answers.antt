use Rattle.std.proofs.Common.{◌≡◌, ◌∙◌, ap, sym, length, refl, arith}
use Rattle.psac_slots.specs.declared.view.ClaimView.{ClaimView}
use Rattle.psac_stage.specs.Places.{fixed_slots}
use Rattle.psac_stage.proofs.Stages.{staged_may}
use Rattle.psac_stage.proofs.Storing.{first_put}
use Rattle.psac_stage.proofs.store.staged.Goals as goal

pub place-requires-clause-table : goal.place-requires-clause-table
place-requires-clause-table c = c.requires.may.2.of.0

pub place-requires-clause-fixed : goal.place-requires-clause-fixed
place-requires-clause-fixed c = (fixed_slots c.args.grid.now c.args.outs, c.requires.may.2.all.fixed, omega arith)

pub place-requires-clause-small : goal.place-requires-clause-small
place-requires-clause-small c =
    let fits = c.rows.ensures.sound.fits in
    let few = c.requires.few in
    omega (arith, fits, few)

pub place-requires-clause-has : goal.place-requires-clause-has
place-requires-clause-has c = c.requires.may.2.all.grid

pub invariant_of-pass : goal.invariant_of-pass
invariant_of-pass c =
    let v : c.place.new.pass.knows.claims.branch ≡ c.args.pass.values.knows.claims.branch = ap (λ (d : ClaimView). d.branch) c.place.ensures.same.claims in
    record {
      deep = c.args.pass.deep ∙ ap length (sym v);
      beside = c.args.pass.beside ∙ sym v;
      beside_marks = c.args.pass.beside_marks ∙ sym v;
    }

pub returns-clause-may : goal.returns-clause-may
returns-clause-may c caps age may =
    staged_may c.args.outs c.args.grid.now c.place.new.grid caps age c.args.tables.now c.args.pass _ c.place.ensures.same refl refl c.place.ensures.table (first_put c.args.batch.now c.args.grid.now c.place.new.grid c.place.ensures.grid) c.place.ensures.has may
