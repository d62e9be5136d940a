-- The steps of a sole pass keep the rule of values.
use Rattle.psac_values.proofs.Terms.{◌≡◌, ◌≢◌, ℕ, ◌+◌, ◌-◌, ◌*◌, ◌<◌, ◌≤◌, List, [], ◌∷◌, ◌++◌, map, length, set, take, drop, true, false, true≢false, refl, sym, ap, ◌∙◌, subst, inl, ⊎_elim, arith, Some, length-set, mod-lt, none_in, dropped_at, ◌==◌, eq-eqb, lt-ltb, some, get_elem?, at_map, set_else, Handle, Member, word_of, later, slot_times, removed, once_below, ClaimView, bit, at_drop, at_new, member_filter, filtered, found, removed_else, changes, off, KnownView, StateView, ValueView, state_at, free_word, claims_of, handle_of, rights_of, ways, held_times, Made, Valued, learned, rewound, other_owned, other_state, gave}
use Rattle.psac_slots.specs.Claiming as claiming
use Rattle.psac_slots.proofs.Rewinds as turns
use Rattle.psac_values.proofs.Words.{whole_else, stated_else, fits_low}
use Rattle.psac_values.proofs.Keeps.{at_claims, at_rights, held_after, step_to, same_rights, grows}

module _ (fixed count c head : ℕ) (list : List Handle) (words : List ℕ) (views : List ValueView) (h : Valued fixed count c head list words views) (id : ℕ) (v : ValueView) (at : get_elem? views id ≡ some v) (live : v.claims.live ≡ true) (empty : v.claims.branch ≡ []) where
  mine_at : get_elem? (map claims_of views) id ≡ some v.claims
  mine_at = at_claims fixed count c head list words views h id v at

  dead : (j : ℕ) (u : ValueView) → j ≢ id → get_elem? views j ≡ some u → u.claims.live ≡ false
  dead j u n e = turns.alone count c head list words (map claims_of views) h.claims id v.claims mine_at live empty j u.claims n (at_map claims_of views j u e)

  none_shared : (e : KnownView) → Member e v.known → ⊥
  none_shared e m = let l = ((h.rights.own id (rights_of v) (at_rights fixed count c head list words views h id v at)).labels e m).1 in let z = ap length empty in omega (arith, l, z)

  -- a sole pass shares nothing
  pub nothing_known : v.known ≡ []
  nothing_known = none_in v.known none_shared

  -- a pass that is not live has nothing
  dead_made : (after : List ValueView) (j : ℕ) (u : ValueView) → j ≢ id → get_elem? views j ≡ some u → Made fixed after u
  dead_made after j u n e =
      let o = h.rights.own j (rights_of u) (at_map rights_of views j u e) in
      let d = dead j u n e in record {
        mine = λ w m g. absurd (true≢false (sym (o.rises w m) ∙ d));
        known = λ k m g. absurd (true≢false (sym (o.awake k m) ∙ d));
      }

  -- what a sole pass holds is all that is held
  pub all_held : (s : ℕ) → held_times s views ≡ slot_times s v.claims.held
  all_held s = turns.alone_sum count c head list words (map claims_of views) h.claims id v.claims mine_at live empty (λ (u : ClaimView). slot_times s u.held) refl (λ u _ d. ap (slot_times s) d)

  -- the state of a slot that a sole pass doesn't hold says that it is free
  pub free_state : (s : ℕ) → s < count → slot_times s v.claims.held ≡ 0 → (g : ℕ) × (get_elem? words (state_at count s) ≡ some (2 * g))
  free_state s low none =
      let one : once_below s count ≡ 1 = ap bit (lt-ltb s count low) in
      let x = found s (drop c list) (omega (arith, all_held s, h.claims.slots s, one, none)) in
      let k = dropped_at list c x.0 x.1 in
      (x.0.generation, ap (λ i. get_elem? words (state_at count i)) (sym x.2) ∙ h.free k.0 x.0 k.1 k.2)

  pub learns_at : Valued fixed count c head list words (set views id (learned c v))
  learns_at =
      let w = learned c v in
      let f = h.each id v at in
      let old = grows fixed count c head list words views h id v at w (λ s. omega arith) v (h.made id v at) in
      step_to fixed count c head list words views h id v at w words c head list
      (turns.learns_at count c head list words (map claims_of views) h.claims id v.claims mine_at live empty)
      (same_rights fixed count c head list words views h id v at w refl)
      record { fixed_is = f.fixed_is; mine = f.mine; known = f.known; states = f.states; held_is = f.held_is; met = f.met }
      (λ j u n e. h.each j u e)
      (record { mine = old.mine; known = old.known })
      (λ j u n e. dead_made (set views id w) j u n e)
      (omega arith)
      h.free

  pub rewinds_at : v.claims.counter ≡ Some c → Valued fixed count 0 (claiming.turned count (head + length (take c list))) (drop c list) (set words 0 0) (set views id (rewound v))
  rewinds_at knows =
      let w = rewound v in
      let f = fits_low fixed count words 0 0 v (omega arith) (h.each id v at) in
      let old = grows fixed count c head list words views h id v at w (λ s. omega arith) v (h.made id v at) in
      step_to fixed count c head list words views h id v at w (set words 0 0) 0 (claiming.turned count (head + length (take c list))) (drop c list)
      (turns.rewinds_at count c head list words (map claims_of views) h.claims id v.claims mine_at live empty knows)
      (same_rights fixed count c head list words views h id v at w refl)
      record { fixed_is = f.fixed_is; mine = f.mine; known = f.known; states = f.states; held_is = f.held_is; met = f.met }
      (λ j u n e. fits_low fixed count words 0 0 u (omega arith) (h.each j u e))
      (record { mine = old.mine; known = old.known })
      (λ j u n e. dead_made (set views id w) j u n e)
      (let a = length-set words 0 0 in omega (arith, a))
      (λ k x le e. set_else words 0 (state_at count x.slot) 0 (λ q. omega (arith, q)) ∙ h.free (c + k) x (omega arith) (sym (at_drop list c k) ∙ e))

  pub gives_at : c ≡ 0 → (x : Handle) → Member x v.claims.held → x.generation < 4294967295 → (t : StateView) → Member t v.states → t.of ≡ x → t.word ≡ free_word (later x)
      → Valued fixed count c head (list ++ later x ∷ []) (set words (claiming.place count (head + length list)) (word_of (later x))) (set views id (gave x v))
  gives_at none x has next t mt of word =
      let w = gave x v in
      let i = claiming.place count (head + length list) in
      let y = word_of (later x) in
      let f = h.each id v at in
      let o = h.rights.own id (rights_of v) (at_rights fixed count c head list words views h id v at) in
      let st = f.states t mt in
      let same = ap (λ (z : Handle). z.slot) of in
      let short : i ≤ count = omega (arith, mod-lt (head + length list) {m = count} (omega (arith, st.low))) in
      step_to fixed count c head list words views h id v at w (set words i y) c head (list ++ later x ∷ [])
      (turns.gives_at count c head list words (map claims_of views) h.claims id v.claims mine_at live empty none x has next)
      (changes ways (map rights_of views) id (rights_of v) h.rights (at_rights fixed count c head list words views h id v at) live w.mine
      (λ z mz. inl (z, (member_filter (other_owned (v.fixed + x.slot)) z v.mine mz).0, refl))
      (λ z z' mz mz' is. o.single z z' (member_filter (other_owned (v.fixed + x.slot)) z v.mine mz).0 (member_filter (other_owned (v.fixed + x.slot)) z' v.mine mz').0 is))
      record {
        fixed_is = f.fixed_is;
        mine = λ z mz. whole_else fixed count words i y z.of z.words (λ j k q. omega (arith, q, short)) (f.mine z (member_filter (other_owned (v.fixed + x.slot)) z v.mine mz).0);
        known = λ e me. absurd (none_shared e me);
        states = λ z mz. stated_else fixed count words i y z (λ q. omega (arith, q, short)) (f.states z (member_filter (other_state x.slot) z v.states mz).0);
        held_is = filtered handle_of x.slot v.states ∙ ap (removed x.slot) f.held_is;
        met = f.met;
      }
      (λ j u n e. fits_low fixed count words i y u short (h.each j u e))
      (record {
        mine = λ z mz g.
            let q = member_filter (other_owned (v.fixed + x.slot)) z v.mine mz in
            let apart : z.of.slot - fixed ≢ x.slot = λ e. off (z.of.slot == v.fixed + x.slot) q.1 (eq-eqb z.of.slot (v.fixed + x.slot) (omega (arith, e, g, f.fixed_is live))) in
            let a = held_after fixed count c head list words views h id v at w (z.of.slot - fixed) in
            omega (arith, a, removed_else (z.of.slot - fixed) x.slot v.claims.held apart, (h.made id v at).mine z q.0 g);
        known = λ e me g. absurd (none_shared e me);
      })
      (λ j u n e. dead_made (set views id w) j u n e)
      (let a = length-set words i y in omega (arith, a))
      (λ k z le e. set_else words i (state_at count z.slot) y (λ q. omega (arith, q, short)) ∙ ⊎_elim
      (λ (p : (k < length list) × (get_elem? list k ≡ some z)). h.free k z le p.1)
      (λ (p : (k ≡ length list) × (later x ≡ z)). subst (λ (z' : Handle). get_elem? words (state_at count z'.slot) ≡ some (free_word z')) p.1
      (ap (λ j. get_elem? words (state_at count j)) (sym same) ∙ (st.stands ∙ ap some word)))
      (at_new list (later x) z k e))
