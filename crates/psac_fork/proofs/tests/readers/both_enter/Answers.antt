use Rattle.std.proofs.Common.{true, false, sym, ap, subst, refl, ◌∙◌, arith}
use Rattle.psac_slots.specs.Handles.{Member}
use Rattle.psac_readers.specs.declared.view.ReadersView.{ReadersView}
use Rattle.psac_readers.specs.Chained.{mods_of, labelled}
use Rattle.psac_readers.specs.Steps.{Has, regained}
use Rattle.psac_readers.proofs.Callers.{left_has, right_has, comes_back}
use Rattle.psac_readers.proofs.Sides.{told_in}
use Rattle.psac_fork.proofs.tests.readers.both_enter.Goals as goal

pub join-lefts-requires-after_bounds : goal.join-lefts-requires-after_bounds
join-lefts-requires-after_bounds g c κs within =
    let t = c.fork-left.ensures.table in
    let l = c.fork-left.ensures.left in
    let r = c.fork-left.ensures.right in
    let v = c.args.pass.knows in
    let m = c.args.m.slot in
    let in_side = c.requires.inside in
    let el = ap (λ (u : ReadersView). u.mods) l in
    let er = ap (λ (u : ReadersView). u.mods) r in (
      (t.0 ∙ c.requires.table, ap (λ (u : ReadersView). u.claims.over) l ∙ c.requires.room, omega (arith, el, in_side), subst (Has m) (sym l) (left_has (λ _. false) (λ _. false) v m c.requires.mine)),
      (t.1 ∙ c.requires.table, ap (λ (u : ReadersView). u.claims.over) r, omega (arith, er, in_side), subst (Has m) (sym r) (right_has (λ _. false) (λ _. false) v m c.requires.mine)),
    )

pub returns-clause-walk : goal.returns-clause-walk
returns-clause-walk g c =
    let l = c.fork-left.ensures.left in
    let f = c.join-lefts.ensures.first in
    let v = c.args.pass.knows in
    let m = c.args.m.slot in
    let e = labelled v.claims.branch m in
    let t = told_in (λ _. true) (λ _. false) (λ _. false) v m c.requires.mine refl in
    let had = subst (Member e) (sym (f.2 ∙ ap (λ (u : ReadersView). u.shared) l)) t in
    let back = comes_back c.join-lefts.result.0.1.knows c.join-lefts.result.1.1.knows m v.claims.branch e had refl refl (f.1 ∙ ap (λ (u : ReadersView). u.claims.branch) l) in
    subst (λ (u : ReadersView). Member m (mods_of u.walk)) (sym (c.regain.ensures.counter.1 ∙ ap (regained c.regain.ensures.counter.0) c.join.ensures.joined)) back
