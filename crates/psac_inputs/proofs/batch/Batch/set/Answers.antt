use Rattle.std.proofs.Common.{rules, arith, ◌≡◌, ◌<◌, refl, ◌∙◌, subst, ap, sym, false}
use Rattle.std.specs.Result.{is_err}
use Rattle.psac_inputs.specs.Batch.{Batch, GoesInto, IsBatch, IsWhole, batch_set, put_all}
use Rattle.psac_inputs.specs.Staged.{shown}
use Rattle.psac_inputs.proofs.EditMap.{inserted}
use Rattle.psac_inputs.proofs.Staging.{goes-set, put_all-set, set_sound, whole-set}
use Rattle.psac_inputs.proofs.batch.Batch.set.Goals as goal

pub returns-clause-ok : goal.returns-clause-ok
returns-clause-ok c =
    let fine : is_err c.insert.result ≡ false = search rules in
    let edits = inserted c.insert.result fine _ c.self.inside.edits.entries c.insert.new.self.entries (record { row = c.args.row; col = c.args.col }) c.args.value (λ _ _. refl) c.insert.ensures.entries in
    ap (λ es. record (shown c.self.inside) { edits = es }) edits ∙ ap (batch_set c.args.row c.args.col c.args.value) c.self.view_is

pub invariant_of-self-2 : goal.invariant_of-self-2
invariant_of-self-2 c =
    let fine : is_err c.insert.result ≡ false = search rules in
    let edits = inserted c.insert.result fine _ c.self.inside.edits.entries c.insert.new.self.entries (record { row = c.args.row; col = c.args.col }) c.args.value (λ _ _. refl) c.insert.ensures.entries in
    let low : c.args.row < c.self.inside.rows = omega arith in
    let right : c.args.col < c.self.inside.cols = omega arith in
    subst IsBatch (sym (ap (λ es. record (shown c.self.inside) { edits = es }) edits))
    (set_sound c.args.row c.args.col c.args.value (shown c.self.inside) c.self.invariant low right c.requires)

pub returns-clause-staged : goal.returns-clause-staged
returns-clause-staged c = λ g.
    ap (λ (b : Batch). put_all b g) (returns-clause-ok c)
    ∙ put_all-set c.args.row c.args.col c.args.value c.args.self.now g (subst IsBatch c.self.view_is c.self.invariant)

pub returns-clause-goes : goal.returns-clause-goes
returns-clause-goes c = λ g goes.
    let sound : IsBatch c.args.self.now = subst IsBatch c.self.view_is c.self.invariant in
    let rows : c.self.inside.rows ≡ c.args.self.now.rows = ap (λ (b : Batch). b.rows) c.self.view_is in
    let Into : Batch → Type 0 = λ b. GoesInto b g in
    subst Into (sym (returns-clause-ok c)) (goes-set c.args.row c.args.col c.args.value c.args.self.now g sound (omega arith) goes)

pub returns-clause-whole : goal.returns-clause-whole
returns-clause-whole c = λ whole.
    subst IsWhole (sym (returns-clause-ok c)) (whole-set c.args.row c.args.col c.args.value c.args.self.now whole)
