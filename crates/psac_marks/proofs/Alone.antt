-- What a sole pass knows of the table.
use Rattle.psac_marks.proofs.Terms.{◌≡◌, ◌≢◌, ℕ, ◌*◌, ◌<◌, List, [], map, length, drop, true, false, true≢false, refl, sym, ap, ◌∙◌, subst, ⊎_elim, arith, none_in, dropped_at, at_mapped, lt-ltb, cases_eq, some, some-injective, get_elem?, at_map, Member, slot_times, once_below, ClaimView, bit, found, SharedView, MarksView, state_at, Place, places, claims_of, rights_of, tree_of, held_times, Marked}
use Rattle.psac_slots.proofs.Rewinds as turns
use Rattle.psac_marks.proofs.Parts.{each_place}
use Rattle.psac_marks.proofs.Keeps.{held_is}

module _ (nodes : ℕ) (words : List ℕ) (views : List MarksView) (h : Marked nodes words views) where
  -- a pass that isn't live has no node
  pub idle : (j : ℕ) (u : MarksView) → get_elem? views j ≡ some u → u.claims.live ≡ false → (e : Place) → Member e (places u) → ⊥
  idle j u d dead e m =
      let o = h.rights.own j (rights_of u) (at_map rights_of views j u d) in
      each_place u (λ _. ⊥) (λ k q. true≢false (sym (o.rises k q) ∙ dead)) (λ k q. true≢false (sym (o.awake k q) ∙ dead)) e m

  module _ (id : ℕ) (v : MarksView) (at : get_elem? views id ≡ some v) (live : v.claims.live ≡ true) (empty : v.claims.branch ≡ []) where
    pub dead : (j : ℕ) (u : MarksView) → j ≢ id → get_elem? views j ≡ some u → u.claims.live ≡ false
    dead j u n e = turns.alone nodes h.counter h.head h.list words (map claims_of views) h.claims id v.claims (at_map claims_of views id v at) live empty j u.claims n (at_map claims_of views j u e)

    -- no other pass has a node
    pub nobody_else : (j : ℕ) (u : MarksView) (e : Place) → j ≢ id → get_elem? views j ≡ some u → Member e (places u) → ⊥
    nobody_else j u e n d m = idle j u d (dead j u n d) e m

    none_shared : (e : SharedView) → Member e v.shared → ⊥
    none_shared e m = let l = ((h.rights.own id (rights_of v) (at_map rights_of views id v at)).labels e m).1 in let z = ap length empty in omega (arith, l, z)

    -- a sole pass shares nothing
    pub nothing_shared : v.shared ≡ []
    nothing_shared = none_in v.shared none_shared

    -- what a sole pass holds is all that is held
    pub all_held : (x : ℕ) → held_times x (map tree_of views) ≡ slot_times x v.claims.held
    all_held x =
        let a = turns.alone_sum nodes h.counter h.head h.list words (map claims_of views) h.claims id v.claims (at_map claims_of views id v at) live empty (λ (u : ClaimView). slot_times x u.held) refl (λ u _ d. ap (slot_times x) d) in
        omega (arith, a, held_is nodes words views h x)

    -- a sole pass holds what it has
    pub holds_own : (e : Place) → Member e (places v) → Member e.node v.claims.held
    holds_own e m =
        let o = h.tree.out id (tree_of v) e (at_map tree_of views id v at) m in
        let u = at_mapped tree_of views o.0 o.1 o.2 in
        let there : Member e.node u.0.claims.held = subst (λ (k : Rattle.psac_marks.specs.Marked.Grown). Member e.node k.held) (sym u.2) o.3 in ⊎_elim
        (λ (q : o.0 ≡ id). subst (λ (k : MarksView). Member e.node k.claims.held) (some-injective u.0 v (sym u.1 ∙ (ap (get_elem? views) q ∙ at))) there)
        (λ n. absurd (subst (Member e.node) ((h.claims.each o.0 u.0.claims (at_map claims_of views o.0 u.0 u.1)).gone (dead o.0 u.0 n u.1)).1 there))
        (cases_eq o.0 id)

    -- the state of a slot that a sole pass doesn't hold says that it is free
    pub free_state : (x : ℕ) → x < nodes → slot_times x v.claims.held ≡ 0 → (g : ℕ) × (get_elem? words (state_at nodes x) ≡ some (2 * g))
    free_state x low none =
        let one : once_below x nodes ≡ 1 = ap bit (lt-ltb x nodes low) in
        let f = found x (drop h.counter h.list) (omega (arith, h.claims.slots x, held_is nodes words views h x, all_held x, none, one)) in
        let k = dropped_at h.list h.counter f.0 f.1 in
        (f.0.generation, ap (λ y. get_elem? words (state_at nodes y)) (sym f.2) ∙ h.states.free k.0 f.0 k.1 k.2)
