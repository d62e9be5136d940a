-- Splits and joins keep the rule of values.
use Rattle.psac_values.proofs.Terms.{◌≡◌, ◌≢◌, ◌⊎◌, ℕ, ◌+◌, ◌-◌, ◌<◌, ◌≤◌, List, [], ◌∷◌, ◌++◌, map, length, set, Bool, true, false, true≢false, refl, sym, ap, ◌∙◌, subst, inl, inr, ⊎_elim, arith, at_mapped, sum_by, filter, ◌==◌, cond, map-set, map-append, sum_by-append, sum_by_push, some, get_elem?, at_map, set_else, Handle, is_prefix, stem, Member, slot_times, ClaimView, Divided, Rights, stays, goes, lends, above, comes_back, no_rights, sum_set, all_set, member_cases, member_filter, member_map, one_after, divides, unites, meets, OwnedView, KnownView, ValueView, claims_of, handle_of, rights_of, ways, Whole, Fits, held_times, Made, Valued, now_known, left_of, right_of, met, joined, spent}
use Rattle.psac_slots.specs.Claiming as claiming
use Rattle.psac_slots.proofs.Keeps as laws
use Rattle.psac_values.proofs.Keeps.{made_more, held_after}

module _ (fixed count c head : ℕ) (list : List Handle) (words : List ℕ) (views : List ValueView) (h : Valued fixed count c head list words views) where
  strangers : (id j : ℕ) (v u : ValueView) → get_elem? views id ≡ some v → get_elem? views j ≡ some u → j ≢ id → v.claims.live ≡ true → u.claims.live ≡ true
      → (is_prefix v.claims.branch u.claims.branch ≡ false) × (is_prefix u.claims.branch v.claims.branch ≡ false)
  strangers id j v u at e n live lu = (
    h.claims.apart id j v.claims u.claims (at_map claims_of views id v at) (at_map claims_of views j u e) (λ p. n (sym p)) live lu,
    h.claims.apart j id u.claims v.claims (at_map claims_of views j u e) (at_map claims_of views id v at) n lu live,
  )

  module _ (shared to_right : ℕ → Bool) (id : ℕ) (v : ValueView) (at : get_elem? views id ≡ some v) (live : v.claims.live ≡ true) where
    lent_from : (e : KnownView) → Member e (now_known shared to_right v) → Member e v.known ⊎ ((w : OwnedView) × Member w v.mine × (ways.lend v.claims.branch w ≡ e))
    lent_from e m = ⊎_elim (λ p. inl p) (λ q. let x = member_map (ways.lend v.claims.branch) e (filter (lends ways shared to_right) v.mine) q in inr (x.0, (member_filter (lends ways shared to_right) x.0 v.mine x.1).0, x.2))
        (member_cases e v.known (map (ways.lend v.claims.branch) (filter (lends ways shared to_right) v.mine)) m)

    known_whole : (e : KnownView) → Member e (now_known shared to_right v) → Whole fixed count words e.of e.words
    known_whole e m = ⊎_elim (λ p. (h.each id v at).known e p)
        (λ (q : (w : OwnedView) × Member w v.mine × (ways.lend v.claims.branch w ≡ e)). subst (λ (k : KnownView). Whole fixed count words k.of k.words) q.2 ((h.each id v at).mine q.0 q.1))
        (lent_from e m)

    pub splits_at : v.claims.over ≡ 0 → length v.claims.branch < 62 → Valued fixed count c head list words (set views id (left_of shared to_right v) ++ right_of shared to_right v ∷ [])
    splits_at none short =
        let l = left_of shared to_right v in
        let r = right_of shared to_right v in
        let f = h.each id v at in
        let after = set views id l ++ r ∷ [] in
        let held : (s : ℕ) → held_times s after ≡ held_times s views = λ s.
        let a = held_after fixed count c head list words views h id v at l s in
        let b = ap (sum_by (λ (u : ClaimView). slot_times s u.held)) (map-append claims_of (set views id l) (r ∷ [])) ∙ sum_by_push (λ (u : ClaimView). slot_times s u.held) (map claims_of (set views id l)) r.claims in
        omega (arith, a, b) in
        let more : (u : ValueView) → Made fixed views u → Made fixed after u = λ u. made_more fixed views after u (λ s p. let a = held s in omega (arith, a, p)) in
        let old = more v (h.made id v at) in
        let known_made : (e : KnownView) → Member e (now_known shared to_right v) → fixed ≤ e.of.slot → 0 < held_times (e.of.slot - fixed) after = λ e m. ⊎_elim (λ p. old.known e p)
        (λ (q : (w : OwnedView) × Member w v.mine × (ways.lend v.claims.branch w ≡ e)). subst (λ (k : KnownView). fixed ≤ k.of.slot → 0 < held_times (k.of.slot - fixed) after) q.2 (old.mine q.0 q.1))
        (lent_from e m) in
        record {
          claims = subst (claiming.Claimed count c head list words) (sym (map-append claims_of (set views id l) (r ∷ []) ∙ ap (λ z. z ++ r.claims ∷ []) (map-set claims_of views id l)))
              (laws.splits_at count c head list words (map claims_of views) h.claims id v.claims (at_map claims_of views id v at) live none short);
          rights = subst (Divided ways) (sym (map-append rights_of (set views id l) (r ∷ []) ∙ ap (λ z. z ++ rights_of r ∷ []) (map-set rights_of views id l)))
              (subst (λ t. Divided ways (set (map rights_of views) id (rights_of l) ++ record { live = t; branch = v.claims.branch ++ true ∷ []; alone = r.mine; shared = r.known } ∷ [])) live
              (divides ways shared to_right (map rights_of views) id (rights_of v) h.rights (at_map rights_of views id v at) live
              (λ j s n e ls. let q = at_mapped rights_of views j s e in subst (λ (z : Rights OwnedView KnownView). (is_prefix v.claims.branch z.branch ≡ false) × (is_prefix z.branch v.claims.branch ≡ false)) q.2
              (strangers id j v q.0 at q.1 n live (ap (λ (z : Rights OwnedView KnownView). z.live) q.2 ∙ ls)))));
          each = one_after (Fits fixed count words) views id l r h.each
              record {
                fixed_is = f.fixed_is;
                mine = λ w m. f.mine w (member_filter (stays ways shared to_right) w v.mine m).0;
                known = known_whole;
                states = f.states;
                held_is = f.held_is;
                met = tt;
              }
              record {
                fixed_is = λ _. f.fixed_is live;
                mine = λ w m. f.mine w (member_filter (goes ways shared to_right) w v.mine m).0;
                known = known_whole;
                states = λ t m. absurd m;
                held_is = refl;
                met = tt;
              };
          made = one_after (Made fixed after) views id l r (λ j u e. more u (h.made j u e))
              record { mine = λ w m. old.mine w (member_filter (stays ways shared to_right) w v.mine m).0; known = known_made }
              record { mine = λ w m. old.mine w (member_filter (goes ways shared to_right) w v.mine m).0; known = known_made };
          long = h.long;
          free = h.free;
        }

  module _ (id other : ℕ) (v w : ValueView) (b : List Bool) (at : get_elem? views id ≡ some v) (was : get_elem? views other ≡ some w) (two : other ≢ id) (live : v.claims.live ≡ true) (alive : w.claims.live ≡ true) (lb : v.claims.branch ≡ b ++ false ∷ []) (rb : w.claims.branch ≡ b ++ true ∷ []) where
    back_from : (z : OwnedView) → Member z (joined v w).mine → Member z v.mine ⊎ (Member z w.mine ⊎ ((e : KnownView) × Member e v.known × (ways.back e ≡ z)))
    back_from z m = ⊎_elim
        (λ p. ⊎_elim (λ q. inl q) (λ q. inr (inl q)) (member_cases z v.mine w.mine p))
        (λ p. let q = member_map ways.back z (filter (comes_back ways (stem v.claims.branch)) v.known) p in inr (inr (q.0, (member_filter (comes_back ways (stem v.claims.branch)) q.0 v.known q.1).0, q.2)))
        (member_cases z (v.mine ++ w.mine) (map ways.back (filter (comes_back ways (stem v.claims.branch)) v.known)) m)

    -- what the right side knows, the left side knows
    pub joins_at : Valued fixed count c head list words (set (set views id (met v w)) other spent)
    joins_at =
        let m = met v w in
        let f = h.each id v at in
        let g = h.each other w was in
        let mid = set views id m in
        let there : get_elem? mid other ≡ some w = set_else views id other m two ∙ was in
        let after = set mid other spent in
        let held : (s : ℕ) → held_times s after ≡ held_times s views = λ s.
        let y = subst (λ vs. sum_by (λ (u : ClaimView). slot_times s u.held) vs + slot_times s w.claims.held ≡ held_times s mid + 0) (sym (map-set claims_of mid other spent))
        (sum_set (λ (u : ClaimView). slot_times s u.held) (map claims_of mid) other w.claims claiming.spent (at_map claims_of mid other w there)) in
        let a = sum_by-append (λ (q : Handle). cond (q.slot == s) 1 0) v.claims.held w.claims.held in
        omega (arith, held_after fixed count c head list words views h id v at m s, y, a) in
        let more : (u : ValueView) → Made fixed views u → Made fixed after u = λ u. made_more fixed views after u (λ s p. let a = held s in omega (arith, a, p)) in
        let mv = more v (h.made id v at) in
        let mw = more w (h.made other w was) in
        record {
          claims = subst (claiming.Claimed count c head list words) (sym (map-set claims_of mid other spent ∙ ap (λ z. set z other claiming.spent) (map-set claims_of views id m)))
              (laws.joins_at count c head list words (map claims_of views) h.claims id other v.claims w.claims b (at_map claims_of views id v at) (at_map claims_of views other w was) two live alive lb rb);
          rights = subst (Divided ways) (sym (map-set rights_of mid other spent ∙ ap (λ z. set z other no_rights) (map-set rights_of views id m)))
              (unites ways (map rights_of views) id other (rights_of v) (rights_of w) b h.rights (at_map rights_of views id v at) (at_map rights_of views other w was) two live alive lb rb
              (λ j s n o e ls. let q = at_mapped rights_of views j s e in subst (λ (z : Rights OwnedView KnownView). ((is_prefix v.claims.branch z.branch ≡ false) × (is_prefix z.branch v.claims.branch ≡ false)) × ((is_prefix w.claims.branch z.branch ≡ false) × (is_prefix z.branch w.claims.branch ≡ false))) q.2
              (let lu = ap (λ (z : Rights OwnedView KnownView). z.live) q.2 ∙ ls in (strangers id j v q.0 at q.1 n live lu, strangers other j w q.0 was q.1 o alive lu))));
          each = all_set (λ _ u. Fits fixed count words u) mid other spent
              record { fixed_is = λ (e : false ≡ true). absurd (true≢false (sym e)); mine = λ z q. absurd q; known = λ z q. absurd q; states = λ z q. absurd q; held_is = refl; met = tt }
              (λ j u n e. all_set (λ _ (y : ValueView). Fits fixed count words y) views id m
              record {
                fixed_is = f.fixed_is;
                mine = λ z q. ⊎_elim (λ p. f.mine z p) (λ k. ⊎_elim (λ p. g.mine z p) (λ (p : (e : KnownView) × Member e v.known × (ways.back e ≡ z)). subst (λ (y : OwnedView). Whole fixed count words y.of y.words) p.2 (f.known p.0 p.1)) k) (back_from z q);
                known = λ z q. f.known z (member_filter (above ways (stem v.claims.branch)) z v.known q).0;
                states = λ t q. ⊎_elim (λ p. f.states t p) (λ p. g.states t p) (member_cases t v.states w.states q);
                held_is = map-append handle_of v.states w.states ∙ (λ i. f.held_is i ++ g.held_is i);
                met = meets ways (map rights_of views) id other (rights_of v) (rights_of w) b h.rights (at_map rights_of views id v at) (at_map rights_of views other w was) two live alive lb rb;
              }
              (λ i y o d. h.each i y d) j u e);
          made = all_set (λ _ u. Made fixed after u) mid other spent
              record { mine = λ z q. absurd q; known = λ z q. absurd q }
              (λ j u n e. all_set (λ _ (y : ValueView). Made fixed after y) views id m
              record {
                mine = λ z q. ⊎_elim (λ p. mv.mine z p) (λ k. ⊎_elim (λ p. mw.mine z p) (λ (p : (e : KnownView) × Member e v.known × (ways.back e ≡ z)). subst (λ (y : OwnedView). fixed ≤ y.of.slot → 0 < held_times (y.of.slot - fixed) after) p.2 (mv.known p.0 p.1)) k) (back_from z q);
                known = λ z q. mv.known z (member_filter (above ways (stem v.claims.branch)) z v.known q).0;
              }
              (λ i y o d. more y (h.made i y d)) j u e);
          long = h.long;
          free = h.free;
        }
