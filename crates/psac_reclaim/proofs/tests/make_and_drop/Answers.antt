use Rattle.std.proofs.Common.{◌≡◌, ℕ, zero, suc, ◌<◌, ◌+◌, ◌∷◌, ◌++◌, [], List, Some, refl, sym, subst, ap, inl, ⊎_elim, ◌∙◌, arith}
use Rattle.std.proofs.lemmas.Bool.{cases_eq}
use Rattle.psac_slots.specs.Claiming.{IsSole, counted_on}
use Rattle.psac_slots.specs.Handles.{Member}
use Rattle.psac_slots.proofs.Pairs.{member_left, member_right, map_member}
use Rattle.psac_values.specs.declared.view.ValueView.{ValueView}
use Rattle.psac_marks.specs.declared.view.MarksView.{MarksView}
use Rattle.psac_readers.specs.declared.view.ReadersView.{ReadersView}
use Rattle.psac_readers.specs.declared.view.WalkView.{WalkView}
use Rattle.psac_readers.specs.Chained.{mods_of}
use Rattle.psac_readers.specs.Steps.{first_walk, first_view}
use Rattle.std.specs.Prelude.{sum_by}
use Rattle.psac_record.specs.Dropped.{dropped_of}
use Rattle.psac_record.specs.Kept.{Kept, E, A, added, links_of}
use Rattle.psac_reclaim.specs.Parts.{in_all}
use Rattle.psac_reclaim.specs.Owed.{ReadersOwed}
use Rattle.psac_reclaim.proofs.tests.make_and_drop.Goals as goal

first_in : (n m : ℕ) → m < n → (e : WalkView) × Member e (first_walk n) × (e.of ≡ m)
first_in zero m l = absurd (omega (arith, l))
first_in (suc n) m l = ⊎_elim
    (λ (e : n ≡ m). (record { of = n; chain = Some [] }, member_right (record { of = n; chain = Some [] }) (first_walk n) (record { of = n; chain = Some [] } ∷ []) (inl refl), e))
    (λ d. let q = first_in n m (let k : n ≡ m → ⊥ = d in omega (arith, l, k)) in (q.0, member_left q.0 (first_walk n) (record { of = n; chain = Some [] } ∷ []) q.1, q.2))
    (cases_eq n m)

first_sets : (v : ReadersView) (links mods : ℕ) → v ≡ first_view links mods → (m : ℕ) → m < v.mods → Member m (mods_of v.walk)
first_sets v links mods e m l =
    let q = first_in mods m (subst (λ (u : ReadersView). m < u.mods) e l) in
    subst (λ (u : ReadersView). Member m (mods_of u.walk)) (sym e) (subst (λ (x : ℕ). Member x (mods_of (first_walk mods))) q.2 (map_member (λ (y : WalkView). y.of) q.0 (first_walk mods) q.1))

pub reset-requires-clause-sole : goal.reset-requires-clause-sole
reset-requires-clause-sole c =
    let r = c.in-Ok.ensures.ok in
    ((suc r.0, ap (λ (u : ValueView). u.claims.counter) r.5 ∙ ap (λ o. counted_on o r.0) (ap (λ (u : ValueView). u.claims.counter) c.requires.values)), (0, ap (λ (u : ReadersView). u.claims.counter) c.requires.readers), (0, ap (λ (u : MarksView). u.claims.counter) c.requires.marks))

pub reclaim-requires-clause-sole : goal.reclaim-requires-clause-sole
reclaim-requires-clause-sole c =
    let r = c.in-Ok.ensures.ok in
    ((suc r.0, ap (λ (u : ValueView). u.claims.counter) r.5 ∙ ap (λ o. counted_on o r.0) (ap (λ (u : ValueView). u.claims.counter) c.requires.values)), (0, ap (λ (u : ReadersView). u.claims.counter) c.requires.readers), (0, ap (λ (u : MarksView). u.claims.counter) c.requires.marks))

pub reset-requires-clause-sets : goal.reset-requires-clause-sets
reset-requires-clause-sets c = first_sets c.args.pass.readers.knows c.args.caps.links (1 + c.args.caps.mods) c.requires.readers

pub reclaim-requires-clause-readers : goal.reclaim-requires-clause-readers
reclaim-requires-clause-readers c =
    let v = c.args.pass.readers.knows in
    let ks : dropped_of c.add.new.self ≡ A c.in-Ok.m E ∷ [] = c.add.ensures ∙ ap (λ (k : Kept). added k (dropped_of c.new-dropped.result)) (c.in_ok-made.ensures ∙ ap (λ (k : Kept). A c.in-Ok.m k) c.empty.ensures) ∙ ap (λ (z : List Kept). A c.in-Ok.m E ∷ z) c.new-dropped.ensures in
    let none : ReadersOwed [] [] v = record {
      links = λ g. let e = ap (λ (u : ReadersView). sum_by g u.links) c.requires.readers in omega (arith, e);
      sets = first_sets v c.args.caps.links (1 + c.args.caps.mods) c.requires.readers;
    } in
    subst (λ (k : Kept). ReadersOwed (links_of k) (in_all links_of (dropped_of c.add.new.self)) v) (sym c.requires.tree) (subst (λ (z : List Kept). ReadersOwed [] (in_all links_of z) v) (sym ks) none)
