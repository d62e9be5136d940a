-- Each step of one pass keeps the rule of values.
use Rattle.psac_values.proofs.Terms.{◌≡◌, ◌≢◌, ℕ, zero, suc, ◌+◌, ◌-◌, ◌%◌, ◌^◌, ◌<◌, ◌≤◌, List, [], ◌∷◌, ◌++◌, map, length, set, drop, true, refl, sym, ap, ◌∙◌, subst, inl, inr, ⊎_elim, arith, Option, Some, None, length-set, cond, at_mapped, same_some, undrawn_slot, first_same, sum_by, ◌==◌, IfSome, map-set, map-append, sum_by-append, eq-eqb, ne_eqb, cases_eq, some, some-ne-none, some-injective, get_elem?, at_map, at_set, set_here, set_else, set_again, Handle, Member, slot_times, ClaimView, Rights, Divided, sum_set, sum_at, sum_two, all_set, member_cases, member_map, map_member, entry_at, later_member, member_times, at_most_once, changes, Unknown, OwnedView, KnownView, StateView, ValueView, state_at, value_at, free_word, claims_of, handle_of, rights_of, ways, Whole, Stated, Meeting, Fits, held_times, Made, Valued, new_owned, new_state, drew, Lacks, put, wrote_word, mark, marked}
use Rattle.psac_slots.specs.Claiming as claiming
use Rattle.psac_slots.proofs.Keeps as laws
use Rattle.psac_values.proofs.Words.{whole_else, stated_else, fits_else, fits_low, first_only}

no_words : (j x : ℕ) → get_elem? {A = Option ℕ} (None ∷ None ∷ None ∷ []) j ≡ some (Some x) → ⊥
no_words zero x e = let q = some-injective None (Some x) e in absurd (cc)
no_words (suc zero) x e = let q = some-injective None (Some x) e in absurd (cc)
no_words (suc (suc zero)) x e = let q = some-injective None (Some x) e in absurd (cc)
no_words (suc (suc (suc j))) x e = some-ne-none (Some x) (sym e)

pub back_again : (hs : List Handle) → map handle_of (map new_state hs) ≡ hs
back_again [] = refl
back_again (x ∷ hs) = ap (λ l. x ∷ l) (back_again hs)

pub mark_of : (s x : ℕ) (ts : List StateView) → map handle_of (map (mark s x) ts) ≡ map handle_of ts
mark_of s x [] = refl
mark_of s x (t ∷ ts) = ap (λ l. t.of ∷ l) (mark_of s x ts)

pub apart_places : (count s t k j : ℕ) → k < 3 → j < 3 → value_at count s k ≡ value_at count t j → s ≡ t
apart_places count s t k j l m e = omega (arith, l, m, e)

-- a state with its new word
pub marked_state : (count i x s : ℕ) (words : List ℕ) (t : StateView) → i ≡ state_at count s → i < length words → Stated count words t → Stated count (set words i x) (mark s x t)
marked_state count i x s words t is low p = ⊎_elim
    (λ (e : t.of.slot ≡ s). record {
      low = p.low;
      stands = (let here : state_at count t.of.slot ≡ i = ap (state_at count) e ∙ sym is in ap (get_elem? (set words i x)) here ∙ (set_here words i x low ∙ ap (λ b. some (cond b x t.word)) (sym (eq-eqb t.of.slot s e))));
    })
    (λ (n : t.of.slot ≢ s). record {
      low = p.low;
      stands = set_else words i (state_at count t.of.slot) x (λ q. n (omega (arith, q, is))) ∙ (p.stands ∙ ap (λ b. some (cond b x t.word)) (sym (ne_eqb t.of.slot s n)));
    })
    (cases_eq t.of.slot s)

-- an owned entry with its new word
pub put_whole : (fixed count i x s j : ℕ) (words : List ℕ) (w : OwnedView) → i ≡ value_at count s j → j < 3 → i < length words → Whole fixed count words w.of w.words → Whole fixed count (set words i x) w.of (put s j x w).words
put_whole fixed count i x s j words w is small low p = ⊎_elim
    (λ (e : w.of.slot ≡ s). subst (λ b. Whole fixed count (set words i x) w.of (cond b (set w.words j (Some x)) w.words)) (sym (eq-eqb w.of.slot s e)) (record {
      long = length-set w.words j (Some x) ∙ p.long;
      low = p.low;
      stands = λ k y q. ⊎_elim
          (λ (z : (k ≡ j) × (◌≡◌ {A = Option ℕ} (Some x) (Some y))). let here : value_at count w.of.slot k ≡ i = (λ n. value_at count (e n) (z.0 n)) ∙ sym is in ap (get_elem? (set words i x)) here ∙ (set_here words i x low ∙ ap some (same_some x y z.1)))
          (λ (z : (k ≢ j) × (get_elem? w.words k ≡ some (Some y))). set_else words i (value_at count w.of.slot k) x (λ m. z.0 (omega (arith, m, is, e))) ∙ p.stands k y z.1)
          (at_set w.words j k (Some x) (Some y) q);
    }))
    (λ (n : w.of.slot ≢ s). subst (λ b. Whole fixed count (set words i x) w.of (cond b (set w.words j (Some x)) w.words)) (sym (ne_eqb w.of.slot s n))
    (whole_else fixed count words i x w.of w.words (λ k l q. n (apart_places count w.of.slot s k j l small (q ∙ is))) p))
    (cases_eq w.of.slot s)

pub made_more : (fixed : ℕ) (views after : List ValueView) (u : ValueView) → ((s : ℕ) → 0 < held_times s views → 0 < held_times s after) → Made fixed views u → Made fixed after u
made_more fixed views after u grows m = record { mine = λ w has g. grows (w.of.slot - fixed) (m.mine w has g); known = λ e has g. grows (e.of.slot - fixed) (m.known e has g) }

module _ (fixed count c head : ℕ) (list : List Handle) (words : List ℕ) (views : List ValueView) (h : Valued fixed count c head list words views) where
  -- an undrawn slot is a slot of the table, and nobody holds it
  pub undrawn : (x : Handle) → Member x (drop c list) → (held_times x.slot views ≡ 0) × (x.slot < count)
  undrawn = undrawn_slot count c head list words (map claims_of views) h.claims

  -- what nobody holds, nobody has
  pub lacks : (s : ℕ) → held_times s views ≡ 0 → (j : ℕ) (u : ValueView) → get_elem? views j ≡ some u → Lacks u (fixed + s)
  lacks s none j u e = record {
    mine = λ w has is. let same : w.of.slot - fixed ≡ s = omega (arith, is) in let m = (h.made j u e).mine w has (omega (arith, is)) in let z = ap (λ k. held_times k views) same in omega (arith, m, z, none);
    known = λ w has is. let same : w.of.slot - fixed ≡ s = omega (arith, is) in let m = (h.made j u e).known w has (omega (arith, is)) in let z = ap (λ k. held_times k views) same in omega (arith, m, z, none);
  }

  -- who has the state of a slot holds it
  pub state_held : (u : ValueView) → Fits fixed count words u → (t : StateView) → Member t u.states → 1 ≤ slot_times t.of.slot u.claims.held
  state_held u f t m = member_times t.of u.claims.held (subst (Member t.of) f.held_is (map_member handle_of t u.states m))

  module _ (id : ℕ) (v : ValueView) (at : get_elem? views id ≡ some v) where
    pub at_claims : get_elem? (map claims_of views) id ≡ some v.claims
    at_claims = at_map claims_of views id v at

    pub at_rights : get_elem? (map rights_of views) id ≡ some (rights_of v)
    at_rights = at_map rights_of views id v at

    pub held_after : (w : ValueView) (s : ℕ) → held_times s (set views id w) + slot_times s v.claims.held ≡ held_times s views + slot_times s w.claims.held
    held_after w s = subst (λ vs. sum_by (λ (u : ClaimView). slot_times s u.held) vs + slot_times s v.claims.held ≡ held_times s views + slot_times s w.claims.held) (sym (map-set claims_of views id w))
        (sum_set (λ (u : ClaimView). slot_times s u.held) (map claims_of views) id v.claims w.claims at_claims)

    -- a step from its parts
    pub step_to : (w : ValueView) (after : List ℕ) (d front : ℕ) (l : List Handle)
        → claiming.Claimed count d front l after (set (map claims_of views) id w.claims)
        → Divided ways (set (map rights_of views) id (rights_of w))
        → Fits fixed count after w
        → ((j : ℕ) (u : ValueView) → j ≢ id → get_elem? views j ≡ some u → Fits fixed count after u)
        → Made fixed (set views id w) w
        → ((j : ℕ) (u : ValueView) → j ≢ id → get_elem? views j ≡ some u → Made fixed (set views id w) u)
        → length words ≤ length after
        → ((k : ℕ) (x : Handle) → d ≤ k → get_elem? l k ≡ some x → get_elem? after (state_at count x.slot) ≡ some (free_word x))
        → Valued fixed count d front l after (set views id w)
    step_to w after d front l cs rs fw fo mw mo len fr = record {
      claims = subst (claiming.Claimed count d front l after) (sym (map-set claims_of views id w)) cs;
      rights = subst (Divided ways) (sym (map-set rights_of views id w)) rs;
      each = all_set (λ _ u. Fits fixed count after u) views id w fw fo;
      made = all_set (λ _ u. Made fixed (set views id w) u) views id w mw mo;
      long = (let a = h.long in omega (arith, a, len));
      free = fr;
    }

    pub same_rights : (w : ValueView) → rights_of w ≡ rights_of v → Divided ways (set (map rights_of views) id (rights_of w))
    same_rights w e = subst (λ r. Divided ways (set (map rights_of views) id r)) (sym e) (subst (Divided ways) (sym (set_again (map rights_of views) id (rights_of v) at_rights)) h.rights)

    pub same_claims : (after : List ℕ) → claiming.Claimed count c head list after (map claims_of views) → claiming.Claimed count c head list after (set (map claims_of views) id v.claims)
    same_claims after cs = subst (claiming.Claimed count c head list after) (sym (set_again (map claims_of views) id v.claims at_claims)) cs

    -- the view holds at least what it held
    pub grows : (w : ValueView) → ((s : ℕ) → slot_times s v.claims.held ≤ slot_times s w.claims.held) → (u : ValueView) → Made fixed views u → Made fixed (set views id w) u
    grows w more u = made_more fixed views (set views id w) u (λ s p. let a = held_after w s in let b = more s in omega (arith, a, b, p))

    -- a view that only counts its looks, or forgets a meeting
    pub quiet_at : (w : ValueView) → w.claims ≡ v.claims → w.mine ≡ v.mine → w.known ≡ v.known → w.states ≡ v.states → w.fixed ≡ v.fixed → IfSome w.met Meeting → Valued fixed count c head list words (set views id w)
    quiet_at w ec em ek es ef meets =
        let f = h.each id v at in
        step_to w words c head list
        (subst (λ z. claiming.Claimed count c head list words (set (map claims_of views) id z)) (sym ec) (same_claims words h.claims))
        (same_rights w (λ i. record { live = (ec i).live; branch = (ec i).branch; alone = em i; shared = ek i }))
        record {
          fixed_is = λ l. ef ∙ f.fixed_is (ap (λ (z : ClaimView). z.live) (sym ec) ∙ l);
          mine = λ x m. f.mine x (subst (Member x) em m);
          known = λ x m. f.known x (subst (Member x) ek m);
          states = λ x m. f.states x (subst (Member x) es m);
          held_is = ap (map handle_of) es ∙ (f.held_is ∙ ap (λ (z : ClaimView). z.held) (sym ec));
          met = meets;
        }
        (λ j u n e. h.each j u e)
        (grows w (λ s. let a = ap (λ (z : ClaimView). slot_times s z.held) ec in omega (arith, a)) w
        (record { mine = λ x m. (h.made id v at).mine x (subst (Member x) em m); known = λ x m. (h.made id v at).known x (subst (Member x) ek m) }))
        (λ j u n e. grows w (λ s. let a = ap (λ (z : ClaimView). slot_times s z.held) ec in omega (arith, a)) u (h.made j u e))
        (omega arith)
        h.free

    module _ (live : v.claims.live ≡ true) where
      list_is : v.claims.list ≡ list
      list_is = (h.claims.each id v.claims at_claims).list_is live

      fixed_is : v.fixed ≡ fixed
      fixed_is = (h.each id v at).fixed_is live

      drawn_now : (x : Handle) → Member x (claiming.entry v.claims.list c) → Member x (drop c list)
      drawn_now x m = first_only x (drop c list) (subst (λ (l : List Handle). Member x (claiming.entry l c)) list_is m)

      pub new_lacks : (x : Handle) → Member x (claiming.entry v.claims.list c) → Lacks v (v.fixed + x.slot)
      new_lacks x m = subst (λ k. Lacks v (k + x.slot)) (sym fixed_is) (lacks x.slot (undrawn x (drawn_now x m)).0 id v at)

      pub new_low : (x : Handle) → Member x (claiming.entry v.claims.list c) → x.slot < v.claims.count
      new_low x m = let a = (undrawn x (drawn_now x m)).1 in let b = (h.claims.each id v.claims at_claims).count_is live in omega (arith, a, b)

      pub draws_at : v.claims.over ≡ 0 → Valued fixed count (suc c) head list (set words 0 ((c + 1) % 2 ^ 64)) (set views id (drew v c))
      draws_at none =
          let w = drew v c in
          let i : ℕ = 0 in
          let y = (c + 1) % 2 ^ 64 in
          let f = h.each id v at in
          let es = claiming.entry v.claims.list c in
          let unknown : (x : Handle) → Member x es → Unknown ways (map rights_of views) (new_owned v.fixed x) = λ x m j r e.
          let q = at_mapped rights_of views j r e in
          let l = subst (λ k. Lacks q.0 (k + x.slot)) (sym fixed_is) (lacks x.slot (undrawn x (drawn_now x m)).0 j q.0 q.1) in
          subst (λ (z : Rights OwnedView KnownView). ((y : OwnedView) → Member y z.alone → y.of.slot ≢ v.fixed + x.slot) × ((y : KnownView) → Member y z.shared → y.of.slot ≢ v.fixed + x.slot)) q.2 (l.mine, l.known) in
          let more : (s : ℕ) → slot_times s v.claims.held ≤ slot_times s w.claims.held = λ s. let a = sum_by-append (λ (z : Handle). cond (z.slot == s) 1 0) v.claims.held es in omega (arith, a) in
          let held_new : (x : Handle) → Member x es → 1 ≤ slot_times x.slot w.claims.held = λ x m. let a = sum_by-append (λ (z : Handle). cond (z.slot == x.slot) 1 0) v.claims.held es in let b = member_times x es m in omega (arith, a, b) in
          step_to w (set words i y) (suc c) head list
          (laws.draws_at count c head list words (map claims_of views) h.claims id v.claims at_claims live none)
          (changes ways (map rights_of views) id (rights_of v) h.rights at_rights live w.mine
          (λ z m. ⊎_elim (λ p. inl (z, p, refl)) (λ q. let x = member_map (new_owned v.fixed) z es q in inr (subst (Unknown ways (map rights_of views)) x.2 (unknown x.0 x.1))) (member_cases z v.mine (map (new_owned v.fixed) es) m))
          (λ z t mz mt is. ⊎_elim
          (λ p. ⊎_elim (λ q. (h.rights.own id (rights_of v) at_rights).single z t p q is)
          (λ q. let x = member_map (new_owned v.fixed) t es q in absurd ((new_lacks x.0 x.1).mine z p (is ∙ ap (λ (k : OwnedView). k.of.slot) (sym x.2))))
          (member_cases t v.mine (map (new_owned v.fixed) es) mt))
          (λ p. let x = member_map (new_owned v.fixed) z es p in ⊎_elim
          (λ q. absurd ((new_lacks x.0 x.1).mine t q (sym is ∙ ap (λ (k : OwnedView). k.of.slot) (sym x.2))))
          (λ q. let k = member_map (new_owned v.fixed) t es q in sym x.2 ∙ (ap (new_owned v.fixed) (first_same x.0 k.0 (drop c v.claims.list) x.1 k.1) ∙ k.2))
          (member_cases t v.mine (map (new_owned v.fixed) es) mt))
          (member_cases z v.mine (map (new_owned v.fixed) es) mz)))
          record {
            fixed_is = f.fixed_is;
            mine = λ z m. ⊎_elim (λ p. whole_else fixed count words i y z.of z.words (λ j k q. omega (arith, q)) (f.mine z p))
                (λ q. let x = member_map (new_owned v.fixed) z es q in subst (λ (k : OwnedView). Whole fixed count (set words i y) k.of k.words) x.2
                record { long = refl; low = (let a = (undrawn x.0 (drawn_now x.0 x.1)).1 in let b = fixed_is in omega (arith, a, b)); stands = λ j k e. absurd (no_words j k e) })
                (member_cases z v.mine (map (new_owned v.fixed) es) m);
            known = λ e m. whole_else fixed count words i y e.of e.words (λ j k q. omega (arith, q)) (f.known e m);
            states = λ t m. ⊎_elim (λ p. stated_else fixed count words i y t (λ q. omega (arith, q)) (f.states t p))
                (λ q. let x = member_map new_state t es q in subst (Stated count (set words i y)) x.2
                record { low = (undrawn x.0 (drawn_now x.0 x.1)).1; stands = set_else words i (state_at count x.0.slot) y (λ p. omega (arith, p)) ∙ h.free c x.0 (omega arith) (ap (λ (l : List Handle). get_elem? l c) (sym list_is) ∙ entry_at v.claims.list c x.0 x.1) })
                (member_cases t v.states (map new_state es) m);
            held_is = map-append handle_of v.states (map new_state es) ∙ (ap (λ l. l ++ map handle_of (map new_state es)) f.held_is ∙ ap (λ l. v.claims.held ++ l) (back_again es));
            met = f.met;
          }
          (λ j u n e. fits_low fixed count words i y u (omega arith) (h.each j u e))
          (record {
            mine = λ z m g. ⊎_elim (λ p. (grows w more v (h.made id v at)).mine z p g)
                (λ q. let x = member_map (new_owned v.fixed) z es q in let k = ap (λ (k : OwnedView). k.of.slot) x.2 in let b = fixed_is in
                let s : z.of.slot - fixed ≡ x.0.slot = omega (arith, k, b) in let a = held_after w x.0.slot in let t = held_new x.0 x.1 in let old = (undrawn x.0 (drawn_now x.0 x.1)).0 in
                let mine = sum_at (λ (u : ClaimView). slot_times x.0.slot u.held) (map claims_of views) id v.claims at_claims in
                let e = ap (λ l. held_times l (set views id w)) s in omega (arith, a, t, e, old, mine))
                (member_cases z v.mine (map (new_owned v.fixed) es) m);
            known = λ e m g. (grows w more v (h.made id v at)).known e m g;
          })
          (λ j u n e. grows w more u (h.made j u e))
          (let a = length-set words i y in omega (arith, a))
          (λ k x le e. set_else words i (state_at count x.slot) y (λ q. omega (arith, q)) ∙ h.free k x (omega (arith, le)) e)

      -- a store to a word of a slot that is the pass's alone
      pub writes_at : (w0 : OwnedView) (j x : ℕ) → Member w0 v.mine → j < 3 → Valued fixed count c head list (set words (value_at count w0.of.slot j) x) (set views id (wrote_word w0.of.slot j x v))
      writes_at w0 j x has small =
          let s = w0.of.slot in
          let i = value_at count s j in
          let w = wrote_word s j x v in
          let f = h.each id v at in
          let o = h.rights.own id (rights_of v) at_rights in
          let low : i < length words = let l = h.long in omega (arith, l, (f.mine w0 has).low, small) in
          step_to w (set words i x) c head list
          (same_claims (set words i x) (laws.else_at count c head list words (map claims_of views) i x (omega arith) h.claims))
          (changes ways (map rights_of views) id (rights_of v) h.rights at_rights live w.mine
          (λ z m. let q = member_map (put s j x) z v.mine m in inl (q.0, q.1, ap (λ (k : OwnedView). k.of.slot) q.2))
          (λ z t mz mt is. let p = member_map (put s j x) z v.mine mz in let q = member_map (put s j x) t v.mine mt in
          sym p.2 ∙ (ap (put s j x) (o.single p.0 q.0 p.1 q.1 (ap (λ (k : OwnedView). k.of.slot) p.2 ∙ (is ∙ sym (ap (λ (k : OwnedView). k.of.slot) q.2)))) ∙ q.2)))
          record {
            fixed_is = f.fixed_is;
            mine = λ z m. let q = member_map (put s j x) z v.mine m in subst (λ (k : OwnedView). Whole fixed count (set words i x) k.of k.words) q.2 (put_whole fixed count i x s j words q.0 refl small low (f.mine q.0 q.1));
            known = λ e m. whole_else fixed count words i x e.of e.words (λ k l q. o.apart w0 has e m (apart_places count e.of.slot s k j l small q)) (f.known e m);
            states = λ t m. stated_else fixed count words i x t (λ q. let z = (f.states t m).low in omega (arith, q, z)) (f.states t m);
            held_is = f.held_is;
            met = f.met;
          }
          (λ k u n e.
          let b = h.rights.beside id k (rights_of v) (rights_of u) at_rights (at_map rights_of views k u e) (λ p. n (sym p)) in
          let g = h.each k u e in
          fits_else fixed count words i x u
          (λ z m y l q. b.alone w0 z has m (sym (apart_places count z.of.slot s y j l small q)))
          (λ z m y l q. b.apart w0 has z m (apart_places count z.of.slot s y j l small q))
          (λ t m q. let z = (g.states t m).low in omega (arith, q, z))
          g)
          (let old = grows w (λ y. omega arith) v (h.made id v at) in record {
            mine = λ z m. let q = member_map (put s j x) z v.mine m in subst (λ (y : OwnedView). fixed ≤ y.of.slot → 0 < held_times (y.of.slot - fixed) (set views id w)) q.2 (old.mine q.0 q.1);
            known = old.known;
          })
          (λ k u n e. grows w (λ y. omega arith) u (h.made k u e))
          (let a = length-set words i x in omega (arith, a))
          (λ k y le e. set_else words i (state_at count y.slot) x (λ q. let z = (undrawn y (later_member list c k y le e)).1 in omega (arith, q, z)) ∙ h.free k y le e)

      -- a store to the state of a claimed slot
      pub marks_at : (t0 : StateView) (x : ℕ) → Member t0 v.states → Valued fixed count c head list (set words (state_at count t0.of.slot) x) (set views id (marked t0.of.slot x v))
      marks_at t0 x has =
          let s = t0.of.slot in
          let i = state_at count s in
          let w = marked s x v in
          let f = h.each id v at in
          let small = (f.states t0 has).low in
          let low : i < length words = let l = h.long in omega (arith, l, small) in
          let mine = state_held v f t0 has in
          step_to w (set words i x) c head list
          (same_claims (set words i x) (laws.else_at count c head list words (map claims_of views) i x (omega arith) h.claims))
          (same_rights w refl)
          record {
            fixed_is = f.fixed_is;
            mine = λ z m. whole_else fixed count words i x z.of z.words (λ k l q. omega (arith, q, small)) (f.mine z m);
            known = λ e m. whole_else fixed count words i x e.of e.words (λ k l q. omega (arith, q, small)) (f.known e m);
            states = λ t m. let q = member_map (mark s x) t v.states m in subst (Stated count (set words i x)) q.2 (marked_state count i x s words q.0 refl low (f.states q.0 q.1));
            held_is = mark_of s x v.states ∙ f.held_is;
            met = f.met;
          }
          (λ k u n e.
          let g = h.each k u e in
          fits_else fixed count words i x u
          (λ z m y l q. omega (arith, q, small))
          (λ z m y l q. omega (arith, q, small))
          (λ t m q.
          let same : t.of.slot ≡ s = omega (arith, q) in
          let there = ap (λ y. slot_times y u.claims.held) same in
          let two = sum_two (λ (y : ClaimView). slot_times s y.held) (map claims_of views) k id u.claims v.claims n (at_map claims_of views k u e) at_claims in
          omega (arith, state_held u g t m, there, two, mine, h.claims.slots s, at_most_once s count))
          g)
          (let old = grows w (λ y. omega arith) v (h.made id v at) in record { mine = old.mine; known = old.known })
          (λ k u n e. grows w (λ y. omega arith) u (h.made k u e))
          (let a = length-set words i x in omega (arith, a))
          (λ k y le e. set_else words i (state_at count y.slot) x (λ q.
          let same : y.slot ≡ s = omega (arith, q) in
          let there = ap (λ z. held_times z views) same in
          let one = sum_at (λ (z : ClaimView). slot_times s z.held) (map claims_of views) id v.claims at_claims in
          omega (arith, (undrawn y (later_member list c k y le e)).0, there, one, mine)) ∙ h.free k y le e)
