-- What the rule says of one view, and of a pass that is the only one.
use Rattle.psac_marks.proofs.Terms.{◌≡◌, ◌≢◌, ℕ, List, [], map, true, false, true≢false, refl, sym, ap, ◌∙◌, subst, ⊎_elim, arith, Some, at_mapped, cases_eq, some, some-injective, get_elem?, at_map, Handle, ClaimView, is_prefix, Member, slot_times, IsDistinct, sole_parts, same_slot, member_times, at_most_once, sum_at, OwnView, MarksView, Place, own_place, places, claims_of, rights_of, Grown, tree_of, marks_of, Has, HasOwn, Marked, Holds}
use Rattle.psac_marks.proofs.Parts.{each_place, each_has, place_own}
use Rattle.psac_marks.proofs.Alone.{dead, nothing_shared, holds_own}

module _ (nodes : ℕ) (words : List ℕ) (views : List MarksView) (h : Marked nodes words views) where
  -- who has a node is live
  pub has_live : (j : ℕ) (u : MarksView) (e : Place) → get_elem? views j ≡ some u → Member e (places u) → u.claims.live ≡ true
  has_live j u e at m =
      let o = h.rights.own j (rights_of u) (at_map rights_of views j u at) in
      each_place u (λ _. u.claims.live ≡ true) o.rises o.awake e m

  -- the branches of two live passes are apart
  pub branches_apart : (i j : ℕ) (v u : MarksView) → get_elem? views i ≡ some v → get_elem? views j ≡ some u → i ≢ j → v.claims.live ≡ true → u.claims.live ≡ true → is_prefix v.claims.branch u.claims.branch ≡ false
  branches_apart i j v u e d n lv lu = h.claims.apart i j v.claims u.claims (at_map claims_of views i v e) (at_map claims_of views j u d) n lv lu

  -- what is out some pass has
  pub out_placed : (i : ℕ) (v : MarksView) (x : Handle) → get_elem? views i ≡ some v → Member x v.claims.held → (j : ℕ) × (u : MarksView) × (get_elem? views j ≡ some u) × Has (places u) x.slot
  out_placed i v x at m =
      let b = sum_at (λ (g : Grown). slot_times x.slot g.held) (map tree_of views) i (tree_of v) (at_map tree_of views i v at) in
      let p = h.tree.had x.slot (omega (arith, member_times x v.claims.held m, b)) in
      let q = at_mapped tree_of views p.0 p.1 p.2 in
      (p.0, q.0, q.1, subst (λ (g : Grown). Has g.places x.slot) (sym q.2) p.3)

  module _ (id : ℕ) (v : MarksView) (at : get_elem? views id ≡ some v) where
    pub held_once : IsDistinct v.claims.held
    held_once x = let a = sum_at (λ (u : ClaimView). slot_times x u.held) (map claims_of views) id v.claims (at_map claims_of views id v at) in let o = h.claims.slots x in let m = at_most_once x nodes in omega (arith, a, o, m)

    module _ (live : v.claims.live ≡ true) (empty : v.claims.branch ≡ []) where
      -- a node that some pass has is its own
      pub owns_all : (j : ℕ) (u : MarksView) (x : ℕ) → get_elem? views j ≡ some u → Has (places u) x → HasOwn v.own x
      owns_all j u x e has = ⊎_elim
          (λ (same : j ≡ id).
          let is : u ≡ v = some-injective u v (sym e ∙ (ap (get_elem? views) same ∙ at)) in
          each_has v (HasOwn v.own) (λ o m. (o, m, refl)) (λ s m. absurd (subst (Member s) (nothing_shared nodes words views h id v at live empty) m)) x (subst (λ (z : MarksView). Has (places z) x) is has))
          (λ n. absurd (true≢false (sym (has_live j u has.0 e has.1) ∙ dead nodes words views h id v at live empty j u n e)))
          (cases_eq j id)

      sole_holds : Holds v
      sole_holds = record {
        once = held_once;
        out = out;
        owned = λ x m.
            let q = out_placed id v x at m in
            let o = owns_all q.0 q.1 x.slot q.2 q.3 in
            (o.0, o.1, same_slot v.claims.held o.0.node x held_once (out o.0 o.1) m o.2);
        marked = λ x p. owns_all id v x at (h.climbs.marked id (marks_of v) x (at_map marks_of views id v at) p);
        busy = λ x p. owns_all id v x at (h.climbs.busy id (marks_of v) x (at_map marks_of views id v at) p).0;
        dropped = λ x p. h.tree.dropped id (tree_of v) x (at_map tree_of views id v at) p;
      }
        where
          out : (o : OwnView) → Member o v.own → Member o.node v.claims.held
          out o m = holds_own nodes words views h id v at live empty (own_place v.claims.branch o) (place_own v o m)

    pub holds_at : (c : ℕ) → v.claims.counter ≡ Some c → Holds v
    holds_at c knows =
        let p = sole_parts v.claims.counter h.counter c v.claims knows (h.claims.each id v.claims (at_map claims_of views id v at)).sole in
        sole_holds p.1 p.2
