-- What the rule of marks gives.
use Rattle.psac_marks.proofs.Terms.{◌≡◌, ◌≢◌, ◌⊎◌, ℕ, ◌<◌, List, [], ◌∷◌, map, set, true, true≢false, refl, sym, ap, ◌∙◌, subst, inl, inr, ⊎_elim, arith, Some, None, at_mapped, none_some, cases_eq, cases_lt, sum_by-cons, some, some-injective, get_elem?, at_map, Member, Own, Beside, times, sum_set, sum_none, all_set, OwnView, MarksView, parent_word, Place, places, claims_of, rights_of, tree_of, Raising, marks_of, marks, HasOwn, Marked, spent, holders, Promised}
use Rattle.psac_slots.proofs.Kept as slots
use Rattle.psac_marks.proofs.Parts.{each_has}
use Rattle.psac_marks.proofs.Keeps.{place_low, held_is, lacks}
use Rattle.psac_marks.proofs.Alone.{dead}
use Rattle.psac_marks.proofs.Families.{child_own}
use Rattle.psac_marks.proofs.Holding.{has_live, out_placed}

-- the sum over what the views have of the marks
pub same_holders : (x : ℕ) (views : List MarksView) → marks x (map marks_of views) ≡ holders x views
same_holders x [] = refl
same_holders x (v ∷ views) = let a = sum_by-cons (λ (r : Raising). times x r.marked) (marks_of v) (map marks_of views) in let b = sum_by-cons (λ (u : MarksView). times x u.marked) v views in let c = same_holders x views in omega (arith, a, b, c)

module _ (nodes : ℕ) (words : List ℕ) (views : List MarksView) (h : Marked nodes words views) where
  own_at : (j : ℕ) (u : MarksView) (e : get_elem? views j ≡ some u) → Own Rattle.psac_marks.specs.Marked.ways (rights_of u)
  own_at j u e = h.rights.own j (rights_of u) (at_map rights_of views j u e)

  beside_at : (i j : ℕ) (v u : MarksView) → get_elem? views i ≡ some v → get_elem? views j ≡ some u → i ≢ j → Beside Rattle.psac_marks.specs.Marked.ways (rights_of v) (rights_of u)
  beside_at i j v u e d n = h.rights.beside i j (rights_of v) (rights_of u) (at_map rights_of views i v e) (at_map rights_of views j u d) n

  same_view : (i j : ℕ) (v u : MarksView) → get_elem? views i ≡ some v → get_elem? views j ≡ some u → i ≡ j → u ≡ v
  same_view i j v u e d same = some-injective u v (sym d ∙ (ap (get_elem? views) (sym same) ∙ e))

  -- of an own node no other pass has the mark
  others_none : (i j : ℕ) (v u : MarksView) (o : OwnView) → get_elem? views i ≡ some v → Member o v.own → j ≢ i → get_elem? views j ≡ some u → times o.node.slot u.marked ≡ 0
  others_none i j v u o e m n d = ⊎_elim
      (λ (p : 0 < times o.node.slot u.marked).
      let has = h.climbs.marked j (marks_of u) o.node.slot (at_map marks_of views j u d) p in
      let b = beside_at i j v u e d (λ q. n (sym q)) in
      absurd (each_has u (λ x. x ≡ o.node.slot → ⊥) (λ w mw q. b.alone o w m mw (sym q)) (λ s ms q. b.apart o m s ms q) o.node.slot has refl))
      (λ z. omega (arith, z))
      (cases_lt 0 (times o.node.slot u.marked))

  own_mark : (i : ℕ) (v : MarksView) (o : OwnView) → get_elem? views i ≡ some v → Member o v.own → holders o.node.slot views ≡ times o.node.slot v.marked
  own_mark i v o e m =
      let f : MarksView → ℕ = λ u. times o.node.slot u.marked in
      let z = sum_none f (set views i spent) (all_set (λ _ u. f u ≡ 0) views i spent refl (λ j u n d. others_none i j v u o e m n d)) in
      omega (arith, sum_set f views i v spent e, z)

  children : (i j : ℕ) (v u : MarksView) (o : OwnView) (e : Place) → get_elem? views i ≡ some v → get_elem? views j ≡ some u → Member o v.own → Member e (places u) → e.parent ≡ Some o.node.slot → times e.node.slot u.dropped ≡ 0 → (i ≡ j) × HasOwn u.own e.node.slot
  children i j v u o e at d m has is kept =
      let k = child_own nodes words views h i v at ((own_at i v at).rises o m) o.node.slot (o, m, refl) j u e d has kept is in
      (sym k.0, (k.1.0, subst (λ (z : MarksView). Member k.1.0 z.own) (sym (same_view i j v u at d (sym k.0))) k.1.1, ap (λ (z : Place). z.node.slot) k.1.2))

  closed : (i : ℕ) (v : MarksView) (e : Place) → get_elem? views i ≡ some v → Member e (places v) → times e.node.slot v.dropped ≡ 0 → 0 < holders e.node.slot views → (e.parent ≡ None) ⊎ (((p : ℕ) × (e.parent ≡ Some p) × (0 < holders p views)) ⊎ ((j : ℕ) × (u : MarksView) × (get_elem? views j ≡ some u) × (u.climb ≡ Some e.node.slot)))
  closed i v e at m kept p =
      let a = same_holders e.node.slot views in
      ⊎_elim (λ r. inl r) (λ y. inr (⊎_elim
      (λ (z : (p : ℕ) × (e.parent ≡ Some p) × (0 < marks p (map marks_of views))). let b = same_holders z.0 views in let g = z.2 in inl (z.0, z.1, omega (arith, b, g)))
      (λ (z : (j : ℕ) × (r : Raising) × (get_elem? (map marks_of views) j ≡ some r) × (r.climb ≡ Some e.node.slot)). let q = at_mapped marks_of views z.0 z.1 z.2 in inr (z.0, q.0, q.1, ap (λ (r : Raising). r.climb) q.2 ∙ z.3))
      y))
      (h.climbs.supported i (marks_of v) e (at_map marks_of views i v at) m kept (omega (arith, a, p)))

  closed_alone : (i : ℕ) (v : MarksView) (e : Place) → get_elem? views i ≡ some v → v.claims.live ≡ true → v.claims.branch ≡ [] → v.climb ≡ None → Member e (places v) → times e.node.slot v.dropped ≡ 0 → 0 < times e.node.slot v.marked → (e.parent ≡ None) ⊎ ((p : ℕ) × (e.parent ≡ Some p) × (0 < times p v.marked))
  closed_alone i v e at live empty idle m kept p =
      let f : ℕ → MarksView → ℕ = λ x u. times x u.marked in
      let lone : (x : ℕ) (j : ℕ) (u : MarksView) → j ≢ i → get_elem? views j ≡ some u → f x u ≡ 0 = λ x j u n d. ⊎_elim
      (λ (g : 0 < f x u). let has = h.climbs.marked j (marks_of u) x (at_map marks_of views j u d) g in absurd (true≢false (sym (has_live nodes words views h j u has.0 d has.1) ∙ dead nodes words views h i v at live empty j u n d)))
      (λ z. omega (arith, z))
      (cases_lt 0 (f x u)) in
      let mine : (x : ℕ) → holders x views ≡ f x v = λ x. let a = sum_set (f x) views i v spent at in let z = sum_none (f x) (set views i spent) (all_set (λ _ u. f x u ≡ 0) views i spent refl (λ j u n d. lone x j u n d)) in omega (arith, a, z) in
      ⊎_elim (λ r. inl r) (λ y. ⊎_elim
      (λ (z : (p : ℕ) × (e.parent ≡ Some p) × (0 < holders p views)). let b = mine z.0 in let g = z.2 in inr (z.0, z.1, omega (arith, b, g)))
      (λ (z : (j : ℕ) × (u : MarksView) × (get_elem? views j ≡ some u) × (u.climb ≡ Some e.node.slot)). absurd (⊎_elim
      (λ (same : i ≡ z.0). none_some e.node.slot (sym idle ∙ (ap (λ (u : MarksView). u.climb) (sym (same_view i z.0 v z.1 at z.2 same)) ∙ z.3)))
      (λ n. let has = h.climbs.climb z.0 (marks_of z.1) e.node.slot (at_map marks_of views z.0 z.1 z.2) z.3 in true≢false (sym (has_live nodes words views h z.0 z.1 has.0 z.2 has.1) ∙ dead nodes words views h i v at live empty z.0 z.1 (λ q. n (sym q)) z.2))
      (cases_eq i z.0)))
      y)
      (closed i v e at m kept (let b = mine e.node.slot in omega (arith, b, p)))

  pub promised : Promised nodes words views
  promised = record {
    claims = slots.promised nodes h.counter h.head h.list words (map claims_of views) h.claims;
    free_lacked = λ i v x e f.
        let n = slots.unheld words (map claims_of views) (slots.promised nodes h.counter h.head h.list words (map claims_of views) h.claims) x f in
        lacks nodes words views h x (omega (arith, n, held_is nodes words views h x)) i v e;
    placed = λ i v x e m. out_placed nodes words views h i v x e m;
    one_owner = λ i j v u o c e d n a b is. (beside_at i j v u e d n).alone o c a b (sym is);
    own_unshared = λ i j v u o x e d a b. ⊎_elim
        (λ (same : i ≡ j). (own_at i v e).apart o a x (subst (λ (w : MarksView). Member x w.shared) (same_view i j v u e d same) b))
        (λ (n : i ≢ j). (beside_at i j v u e d n).apart o a x b)
        (cases_eq i j);
    children = children;
    labels = λ i v x e m. (own_at i v e).labels x m;
    one_label = λ i j v u x y e d a b is. ⊎_elim
        (λ (same : i ≡ j). (own_at i v e).one x y a (subst (λ (w : MarksView). Member y w.shared) (same_view i j v u e d same) b) is)
        (λ (n : i ≢ j). (beside_at i j v u e d n).one x y a b is)
        (cases_eq i j);
    below = λ i j v u x e d n a live pre. (beside_at i j v u e d n).below x a live pre;
    parents_stand = λ i v e at m. h.tree.hung e.node.slot (place_low nodes words views h i v e at m) ∙ ap (λ p. some (parent_word p)) (h.tree.parents i (tree_of v) e (at_map tree_of views i v at) m);
    mark_word = λ x lt. h.climbs.stored x lt ∙ ap some (same_holders x views);
    one_holder = λ x. let a = same_holders x views in let o = h.climbs.once x in omega (arith, a, o);
    own_mark = own_mark;
    busy = λ i v x e p. let a = same_holders x views in let b = (h.climbs.busy i (marks_of v) x (at_map marks_of views i v e) p).1 in omega (arith, a, b);
    had = λ i v x e p. ⊎_elim (λ q. h.climbs.marked i (marks_of v) x (at_map marks_of views i v e) q) (λ y. ⊎_elim (λ q. (h.climbs.busy i (marks_of v) x (at_map marks_of views i v e) q).0) (λ q. h.climbs.climb i (marks_of v) x (at_map marks_of views i v e) q) y) p;
    dropped_own = λ i v x e p. h.tree.dropped i (tree_of v) x (at_map tree_of views i v e) p;
    closed = closed;
    closed_alone = closed_alone;
  }
