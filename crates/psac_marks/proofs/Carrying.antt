-- What a pass of marks carries after each step.
use Rattle.psac_marks.proofs.Terms.{◌≡◌, ◌≢◌, ℕ, suc, ◌+◌, ◌/◌, ◌%◌, ◌<◌, ◌≤◌, List, [], ◌∷◌, ◌++◌, map, length, refl, sym, ap, ◌∙◌, subst, inl, inr, ⊎_elim, arith, Option, Some, None, cond, HasOwn, Owns, none_some, same_some as some_same, ◌==◌, IfSome, map-append, sum_by_push, eq-eqb, ne_eqb, Handle, Member, slot_times, IsDistinct, bit, member_cases, map_member, member_times, claimed_entry, OwnView, StateView, MarksView, Place, own_place, shared_place, places, Has, handle_of, out_word, free_word, Tells, new_own, new_state, drew, Lacks, hang, hung, put, stated, cleared, asked, detached, Carries, Keeps, slot_of, climbed, took, Ringed}
use Rattle.psac_slots.specs.Claiming as claiming
use Rattle.psac_marks.proofs.Parts.{each_place, place_own, place_shared}
use Rattle.psac_marks.proofs.Stays.{back_again}

module _ (nodes head room words : ℕ) (v : MarksView) (p : Carries nodes head room words v) where
  pub ring_here : Ringed nodes head room v.claims
  ring_here = (p.live, p.nodes_is, p.head_is, p.room_is, p.room_fits, p.head_fits)

  -- a ring, and the same sizes
  pub renewed : (at left : ℕ) (w : MarksView) → Ringed nodes at left w.claims → w.climb ≡ None → map handle_of w.states ≡ w.claims.held
      → ((t : StateView) → Member t w.states → (t.word ≡ out_word t.of) × (t.of.slot < nodes)) → ((e : Place) → Member e (places w) → e.node.slot < nodes) → Carries nodes at left words w
  renewed at left w r e held out low = record {
    live = r.0;
    nodes_is = r.1;
    head_is = r.2;
    room_is = r.3;
    room_fits = r.4;
    head_fits = r.5;
    words_is = p.words_is;
    small = p.small;
    climb = e;
    out = out;
    held_is = held;
    low = low;
  }

  -- so does a view that is this one, of a table of that size
  pub carried : (size : ℕ) (w : MarksView) → size ≡ words → w ≡ v → Carries nodes head room size w
  carried size w e f = subst (λ (x : ℕ × MarksView). Carries nodes head room x.0 x.1) (λ j. (sym e j, sym f j)) p

  -- an own node is one of the table's
  pub own_low : (x : Handle) (old : MarksView) → v ≡ old → Owns old x → HasOwn v.own x.slot × (x.slot < nodes)
  own_low x old is o =
      let k = subst (λ (u : MarksView). Owns u x) (sym is) o in
      let s = ap (λ (h : Handle). h.slot) k.2 in
      ((k.0, k.1, s), subst (λ n. n < nodes) s (p.low (own_place v.claims.branch k.0) (place_own v k.0 k.1)))

  pub carries_cleared : (x : ℕ) → Carries nodes head room words (cleared x v)
  carries_cleared x = renewed head room (cleared x v) ring_here p.climb p.held_is p.out p.low

  pub carries_asked : Carries nodes head room words (asked v)
  carries_asked = renewed head room (asked v) ring_here p.climb p.held_is p.out p.low

  pub carries_detached : (x : ℕ) → Carries nodes head room words (detached x v)
  carries_detached x = renewed head room (detached x v) ring_here p.climb p.held_is p.out p.low

  pub carries_climbed : (xs : List ℕ) (end : Option ℕ) → Carries nodes head room words (climbed xs end v)
  carries_climbed xs end = renewed head room (climbed xs end v) ring_here p.climb p.held_is p.out p.low

  -- a claim past the room changes the drawn indexes alone
  pub carries_past : (n : ℕ) → claiming.entry v.claims.list n ≡ [] → Carries nodes head room words (drew v n)
  carries_past n e = renewed head room (drew v n) ring_here p.climb
      (map-append handle_of v.states (map new_state (claiming.entry v.claims.list n)) ∙ (λ i. p.held_is i ++ back_again (claiming.entry v.claims.list n) i))
      (λ t m. ⊎_elim (λ q. p.out t q) (λ q. absurd (subst (Member t) (ap (map new_state) e) q)) (member_cases t v.states (map new_state (claiming.entry v.claims.list n)) m))
      (each_place (drew v n) (λ k. k.node.slot < nodes)
      (λ o m. p.low (own_place v.claims.branch o) (place_own v o (subst (λ (l : List Handle). Member o (map new_own l ++ v.own)) e m)))
      (λ s m. p.low (shared_place s) (place_shared v s m)))

  -- a claim of a node
  pub carries_took : (n : ℕ) (h : Handle) (par : Option ℕ) → claiming.entry v.claims.list n ≡ h ∷ [] → h.slot < v.claims.count → Carries nodes head room words (took v n h par)
  carries_took n h par e low = renewed head room (took v n h par) ring_here p.climb
      (map-append handle_of v.states (record { of = h; word = out_word h } ∷ []) ∙ (λ i. p.held_is i ++ sym e i))
      (λ t m. ⊎_elim (λ q. p.out t q)
      (λ q. ⊎_elim (λ (z : record { of = h; word = out_word h } ≡ t). subst (λ (y : StateView). (y.word ≡ out_word y.of) × (y.of.slot < nodes)) z (refl, (let k = p.nodes_is in omega (arith, low, k)))) (λ b. absurd b) q)
      (member_cases t v.states (record { of = h; word = out_word h } ∷ []) m))
      (each_place (took v n h par) (λ k. k.node.slot < nodes)
      (λ o m. ⊎_elim
      (λ (z : record { node = h; parent = par } ≡ o). let s = ap (λ (o : OwnView). o.node.slot) z in let c = p.nodes_is in omega (arith, low, s, c))
      (λ z. p.low (own_place v.claims.branch o) (place_own v o z))
      m)
      (λ s m. p.low (shared_place s) (place_shared v s m)))

-- other nodes keep their parents
hang_else : (x : ℕ) (par : Option ℕ) (os : List OwnView) → ((o : OwnView) → Member o os → o.node.slot ≢ x) → map (hang x par) os ≡ os
hang_else x par [] f = refl
hang_else x par (o ∷ os) f = λ i. record { node = o.node; parent = ap (λ b. cond b par o.parent) (ne_eqb o.node.slot x (f o (inl refl))) i } ∷ hang_else x par os (λ k m. f k (inr m)) i

-- and other slots their states
put_else : (x n : ℕ) (ts : List StateView) → ((t : StateView) → Member t ts → t.of.slot ≢ x) → map (put x n) ts ≡ ts
put_else x n [] f = refl
put_else x n (t ∷ ts) f = λ i. record { of = t.of; word = ap (λ b. cond b n t.word) (ne_eqb t.of.slot x (f t (inl refl))) i } ∷ put_else x n ts (λ k m. f k (inr m)) i

-- what a claim's three steps make of a view
pub took_is : (v : MarksView) (n : ℕ) (h : Handle) (par : Option ℕ) → claiming.entry v.claims.list n ≡ h ∷ [] → Lacks v h.slot → map handle_of (drew v n).states ≡ (drew v n).claims.held → IsDistinct (drew v n).claims.held
    → stated h.slot (out_word h) (hung h.slot par (drew v n)) ≡ took v n h par
took_is v n h par e lacks held once =
    let own : map (hang h.slot par) (drew v n).own ≡ record { node = h; parent = par } ∷ v.own =
    ap (λ l. map (hang h.slot par) (map new_own l ++ v.own)) e
    ∙ (λ i. record { node = h; parent = ap (λ b. cond b par None) (eq-eqb h.slot h.slot refl) i } ∷ hang_else h.slot par v.own (λ o m. lacks (own_place v.claims.branch o) (place_own v o m)) i) in
    let old : (t : StateView) → Member t v.states → t.of.slot ≢ h.slot = λ t m is.
    let a = member_times t.of (map handle_of v.states) (map_member handle_of t v.states m) in
    let b = sum_by_push (λ (k : Handle). cond (k.slot == h.slot) 1 0) (map handle_of v.states) h in
    let one : bit (h.slot == h.slot) ≡ 1 = ap bit (eq-eqb h.slot h.slot refl) in
    let s = ap (λ k. slot_times k (map handle_of v.states)) is in
    let all : map handle_of v.states ++ h ∷ [] ≡ (drew v n).claims.held = (λ j. map handle_of v.states ++ map handle_of (map new_state (sym e j))) ∙ (sym (map-append handle_of v.states (map new_state (claiming.entry v.claims.list n))) ∙ held) in
    omega (arith, a, b, one, s, subst (λ hs. slot_times h.slot hs ≤ 1) (sym all) (once h.slot)) in
    let states : map (put h.slot (out_word h)) (drew v n).states ≡ v.states ++ record { of = h; word = out_word h } ∷ [] =
    ap (λ l. map (put h.slot (out_word h)) (v.states ++ map new_state l)) e
    ∙ (map-append (put h.slot (out_word h)) v.states (new_state h ∷ [])
    ∙ (λ i. put_else h.slot (out_word h) v.states old i ++ record { of = h; word = ap (λ b. cond b (out_word h) (free_word h)) (eq-eqb h.slot h.slot refl) i } ∷ [])) in
    λ i. record v { claims = claiming.drew v.claims n; own = own i; states = states i }

-- what was drawn and loaded is the list's entry
pub found_here : (nodes head room words : ℕ) (v : MarksView) → Carries nodes head room words v → (n word i : ℕ) → n < length v.claims.list → i ≡ suc ((head + n) % nodes) → Tells (drew v n) i word
    → claiming.entry v.claims.list n ≡ record { slot = word % 4294967296; generation = word / 4294967296 } ∷ []
found_here nodes head room words v p n word i small is t =
    let spot : i ≡ claiming.place v.claims.count (v.claims.head + n) = is ∙ (λ j. suc ((sym p.head_is j + n) % sym p.nodes_is j)) in
    claimed_entry v.claims.list n word small (λ h e. t.entry n spot h e)

-- a parent is a node that the pass has
pub parent_has : (v : MarksView) (par : Option Handle) → IfSome par (λ h. Keeps v h) → (x : ℕ) → slot_of par ≡ Some x → Has (places v) x
parent_has v None k x e = absurd (none_some x e)
parent_has v (Some h) k x e = (k.0, k.1, ap (λ (y : Handle). y.slot) k.2 ∙ some_same h.slot x e)
