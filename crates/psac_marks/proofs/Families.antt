-- The children of an own node are the same pass's own.
use Rattle.psac_marks.proofs.Terms.{◌≡◌, ◌≢◌, ℕ, ◌<◌, List, map, length, true, true≢false, sym, ap, ◌∙◌, subst, refl, ⊎_elim, arith, Some, None, at_mapped, none_some, same_some as some_same, cases_eq, some, some-injective, get_elem?, at_map, is_prefix, Member, times, prefix_short_length, prefix_through, OwnView, SharedView, MarksView, Place, own_place, shared_place, places, claims_of, rights_of, tree_of, HasOwn, Raising, Marked, marks, marks_of, IsClosed, Bare}
use Rattle.psac_marks.proofs.Parts.{place_own, place_cases}
use Rattle.psac_marks.proofs.Keeps.{own_alone, own_mark}

module _ (nodes : ℕ) (words : List ℕ) (views : List MarksView) (h : Marked nodes words views) (id : ℕ) (v : MarksView) (at : get_elem? views id ≡ some v) (live : v.claims.live ≡ true) where
  -- a place that lies below the branch of a live pass is that pass's own
  pub below_own : (j : ℕ) (u : MarksView) (e : Place) → get_elem? views j ≡ some u → Member e (places u) → is_prefix v.claims.branch e.domain ≡ true
      → (j ≡ id) × ((c : OwnView) × Member c v.own × (own_place v.claims.branch c ≡ e))
  below_own j u e d m pre =
      let av = at_map claims_of views id v at in
      let au = at_map claims_of views j u d in
      let b = v.claims.branch in
      let same : j ≡ id → u ≡ v = λ q. some-injective u v (sym d ∙ (ap (get_elem? views) q ∙ at)) in
      ⊎_elim
      (λ (p : (c : OwnView) × Member c u.own × (own_place u.claims.branch c ≡ e)). ⊎_elim
      (λ (q : j ≡ id). let s = same q in (q, (p.0, subst (λ (k : MarksView). Member p.0 k.own) s p.1, (λ t. own_place (sym s t).claims.branch p.0) ∙ p.2)))
      (λ (n : j ≢ id). absurd (true≢false (sym pre ∙ (ap (λ (z : Place). is_prefix b z.domain) (sym p.2) ∙ h.claims.apart id j v.claims u.claims av au (λ q. n (sym q)) live ((h.rights.own j (rights_of u) (at_map rights_of views j u d)).rises p.0 p.1)))))
      (cases_eq j id))
      (λ (p : (s : SharedView) × Member s u.shared × (shared_place s ≡ e)).
      let o = h.rights.own j (rights_of u) (at_map rights_of views j u d) in
      let l = o.labels p.0 p.1 in
      let first : is_prefix b p.0.label ≡ true = ap (λ (z : Place). is_prefix b z.domain) p.2 ∙ pre in ⊎_elim
      (λ (q : j ≡ id). let a = prefix_short_length b p.0.label first in let s = ap (λ (k : MarksView). length k.claims.branch) (same q) in let z = l.1 in absurd (omega (arith, a, s, z)))
      (λ (n : j ≢ id). absurd (true≢false (sym (prefix_through b p.0.label u.claims.branch first l.0) ∙ h.claims.apart id j v.claims u.claims av au (λ q. n (sym q)) live (o.awake p.0 p.1))))
      (cases_eq j id))
      (place_cases u e m)

  pub child_own : (x : ℕ) → HasOwn v.own x → (j : ℕ) (u : MarksView) (e : Place) → get_elem? views j ≡ some u → Member e (places u) → times e.node.slot u.dropped ≡ 0 → e.parent ≡ Some x
      → (j ≡ id) × ((c : OwnView) × Member c v.own × (own_place v.claims.branch c ≡ e))
  child_own x own j u e d m kept is = below_own j u e d m (h.tree.nested j id (tree_of u) (tree_of v) e (own_place v.claims.branch own.0) (at_map tree_of views j u d) (at_map tree_of views id v at) m (place_own v own.0 own.1) kept (is ∙ ap Some (sym own.2)))

  -- where an own node is bare, none of its children is marked but for dropped ones
  pub bare_below : (x : ℕ) → HasOwn v.own x → Bare v x → (j : ℕ) (u : MarksView) (e : Place) → get_elem? views j ≡ some u → Member e (places u) → times e.node.slot u.dropped ≡ 0 → e.parent ≡ Some x → marks e.node.slot (map marks_of views) ≡ 0
  bare_below x own bare j u e d m kept is =
      let k = child_own x own j u e d m kept is in
      let c = k.1.0 in
      let same : u ≡ v = some-injective u v (sym d ∙ (ap (get_elem? views) k.0 ∙ at)) in
      let slot : c.node.slot ≡ e.node.slot = ap (λ (z : Place). z.node.slot) k.1.2 in
      let mark = own_mark nodes words views h id v at e.node.slot (own_alone nodes words views h id v at e.node.slot (c, k.1.1, slot)) in
      let none = bare c k.1.1 (ap (λ (z : Place). z.parent) k.1.2 ∙ is) ((λ t. times (slot t) (sym same t).dropped) ∙ kept) in
      mark ∙ (ap (λ y. times y v.marked) (sym slot) ∙ none)

  -- of own nodes marks are closed upwards, but for dropped ones
  pub closed_at : v.climb ≡ None → IsClosed v
  closed_at idle =
      let all = map marks_of views in
      let mine = at_map marks_of views id v at in
      let whole : (o : OwnView) → Member o v.own → marks o.node.slot all ≡ times o.node.slot v.marked = λ o m. own_mark nodes words views h id v at o.node.slot (own_alone nodes words views h id v at o.node.slot (o, m, refl)) in
      record {
        upwards = λ o c mo mc is kept p.
            let marked : 0 < marks c.node.slot all = let a = whole c mc in omega (arith, a, p) in ⊎_elim
            (λ (root : c.parent ≡ None). absurd (none_some o.node.slot (sym root ∙ is)))
            (λ q. ⊎_elim
            (λ (k : (y : ℕ) × (c.parent ≡ Some y) × (0 < marks y all)). let same = some_same k.0 o.node.slot (sym k.1 ∙ is) in let a = whole o mo in let b = ap (λ y. marks y all) same in let z = k.2 in omega (arith, a, b, z))
            (λ (k : (j : ℕ) × (r : Raising) × (get_elem? all j ≡ some r) × (r.climb ≡ Some c.node.slot)).
            let u = at_mapped marks_of views k.0 k.1 k.2 in ⊎_elim
            (λ (s : k.0 ≡ id). absurd (none_some c.node.slot (sym idle ∙ (ap (λ (z : MarksView). z.climb) (some-injective v u.0 (sym at ∙ (ap (get_elem? views) (sym s) ∙ u.1))) ∙ (ap (λ (z : Raising). z.climb) u.2 ∙ k.3)))))
            (λ (n : k.0 ≢ id). let e = h.climbs.climb k.0 k.1 c.node.slot k.2 k.3 in absurd (own_alone nodes words views h id v at c.node.slot (c, mc, refl) k.0 u.0 e.0 n u.1 (subst (λ (z : Raising). Member e.0 z.places) (sym u.2) e.1) e.2))
            (cases_eq k.0 id))
            q)
            (h.climbs.supported id (marks_of v) (own_place v.claims.branch c) mine (place_own v c mc) kept marked);
        busy = λ o m p. let a = (h.climbs.busy id (marks_of v) o.node.slot mine p).1 in let b = whole o m in omega (arith, a, b);
      }
