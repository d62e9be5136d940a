use Rattle.std.proofs.Common.{true, false, sym, ap, subst, refl, ◌∙◌, arith}
use Rattle.psac_slots.specs.Handles.{Member}
use Rattle.psac_values.specs.declared.view.ValueView.{ValueView}
use Rattle.psac_readers.specs.declared.view.ReadersView.{ReadersView}
use Rattle.psac_readers.specs.Chained.{mods_of, labelled}
use Rattle.psac_readers.specs.Steps.{Has, regained}
use Rattle.psac_readers.proofs.Callers.{left_has, right_has, comes_back}
use Rattle.psac_readers.proofs.Sides.{told_in}
use Rattle.psac_marks.specs.declared.view.MarksView.{MarksView}
use Rattle.psac_fork.proofs.tests.passes.both_make.Goals as goal

pub both-lefts-requires-after_bounds : goal.both-lefts-requires-after_bounds
both-lefts-requires-after_bounds g c κs within =
    let e = c.fork-left.ensures in
    let q = c.requires.room in
    let v = c.args.pass.readers.knows in
    let in_side = c.requires.inside in
    let el = ap (λ (u : ReadersView). u.mods) e.left_readers in
    let er = ap (λ (u : ReadersView). u.mods) e.right_readers in
    let vl = ap (λ (u : ValueView). u.claims.over) e.left_values ∙ q.0 in
    let rl = ap (λ (u : ReadersView). u.claims.over) e.left_readers ∙ q.1 in
    let ml = ap (λ (u : MarksView). u.claims.over) e.left_marks ∙ q.2 in
    let vr = ap (λ (u : ValueView). u.claims.over) e.right_values in
    let rr = ap (λ (u : ReadersView). u.claims.over) e.right_readers in
    let mr = ap (λ (u : MarksView). u.claims.over) e.right_marks in (
      (e.of.0, (vl, rl, ml), omega (arith, el, in_side), subst (Has 0) (sym e.left_readers) (left_has (λ _. false) (λ _. false) v 0 c.requires.mine)),
      (e.of.1, (vr, rr, mr), omega (arith, er, in_side), subst (Has 0) (sym e.right_readers) (right_has (λ _. false) (λ _. false) v 0 c.requires.mine)),
    )

pub returns-clause-walk : goal.returns-clause-walk
returns-clause-walk g c =
    let l = c.fork-left.ensures.left_readers in
    let f = c.both-lefts.ensures.left in
    let v = c.args.pass.readers.knows in
    let p = c.fork-left.result.0 in
    let q = c.both-lefts.result.0.1 in
    let e = labelled v.claims.branch 0 in
    let t = told_in (λ _. true) (λ _. false) (λ _. false) v 0 c.requires.mine refl in
    let had = subst (Member e) (sym (f.2 ∙ ap (λ (u : ReadersView). u.shared) l)) t in
    let branch = q.beside ∙ (f.1 ∙ (sym p.beside ∙ ap (λ (u : ReadersView). u.claims.branch) l)) in
    let back = comes_back q.readers.knows c.both-lefts.result.1.1.readers.knows 0 v.claims.branch e had refl refl branch in
    subst (λ (u : ReadersView). Member 0 (mods_of u.walk)) (sym (c.regain.ensures.readers.1 ∙ ap (regained c.regain.ensures.readers.0) c.join.ensures.readers)) back
