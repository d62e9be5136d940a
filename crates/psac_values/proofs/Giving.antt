-- Made slots that are given back, one after another.
use Rattle.psac_values.proofs.Terms.{◌≡◌, ◌≢◌, ℕ, suc, ◌+◌, ◌/◌, ◌%◌, ◌<◌, ◌≤◌, ◌++◌, map, Bool, true, false, ltb, refl, sym, ap, ◌∙◌, subst, ⊎_elim, arith, Some, append_assoc, append-nil, filter, not, ◌==◌, ◌&&◌, ◌||◌, map-append, ne_eqb, lt-ltb, le-ltb, cases_lt, Handle, Member, later, slot_times, removed, IsDistinct, only, by_slot, accounted_returned, member_map, map_member, member_times, filter_twice, filter_all, filter_none, filter_same, from_next, from_here, only_one, only_none, removed_none, held_from, OwnedView, StateView, ValueView, handle_of, Tells, other_owned, other_state, gave, gave_slot, gave_all, is_fixed, IsOut, Carries, found}
use Rattle.psac_slots.specs.Claiming as claiming
use Rattle.psac_values.proofs.Carrying.{told_out}

abbrev pub states_from : ℕ → StateView → Bool
states_from n t = not (ltb t.of.slot n)

abbrev pub mine_from : ℕ → ℕ → OwnedView → Bool
mine_from fixed n w = ltb w.of.slot fixed || not (ltb w.of.slot (fixed + n))

-- the made slots below n were given back
abbrev pub gave_below : ℕ → ValueView → ValueView
gave_below n v = record v {
  claims = record v.claims { list = v.claims.list ++ map later (by_slot n v.claims.held); held = filter (held_from n) v.claims.held };
  mine = filter (mine_from v.fixed n) v.mine;
  states = filter (states_from n) v.states;
}

none_below : (s : ℕ) → not (ltb s 0) ≡ true
none_below s = ap not (le-ltb s 0 (omega arith))

or_true : (b : Bool) → (b || true) ≡ true
or_true true = refl
or_true false = refl

or_false : (b : Bool) → (b || false) ≡ b
or_false true = refl
or_false false = refl

below_all : (fixed s : ℕ) → (ltb s fixed || not (ltb s (fixed + 0))) ≡ true
below_all fixed s = ⊎_elim
    (λ (l : s < fixed). rw (lt-ltb s fixed l) refl)
    (λ (g : fixed ≤ s). rw (le-ltb s (fixed + 0) (omega (arith, g))) (or_true (ltb s fixed)))
    (cases_lt s fixed)

pub begins : (v : ValueView) → gave_below 0 v ≡ v
begins v = λ i. record v {
  claims = record v.claims { list = append-nil v.claims.list i; held = filter_all (held_from 0) v.claims.held (λ x _. none_below x.slot) i };
  mine = filter_all (mine_from v.fixed 0) v.mine (λ x _. below_all v.fixed x.of.slot) i;
  states = filter_all (states_from 0) v.states (λ x _. none_below x.of.slot) i;
}

mine_next : (fixed n s : ℕ) → ((ltb s fixed || not (ltb s (fixed + n))) && not (s == fixed + n)) ≡ (ltb s fixed || not (ltb s (fixed + suc n)))
mine_next fixed n s = ⊎_elim
    (λ (l : s < fixed). rw (lt-ltb s fixed l) (ap not (ne_eqb s (fixed + n) (λ q. omega (arith, l, q)))))
    (λ (g : fixed ≤ s). rw (le-ltb s fixed g) (from_next s (fixed + n) ∙ ap (λ k. not (ltb s k)) (omega arith)))
    (cases_lt s fixed)

pub goes_on : (n : ℕ) (v : ValueView) → gave_slot n (gave_below n v) ≡ gave_below (suc n) v
goes_on n v =
    let l = v.claims.list in
    let hs = v.claims.held in
    let here : only n (filter (held_from n) hs) ≡ only n hs = filter_twice (λ (h : Handle). h.slot == n) (held_from n) (λ (h : Handle). h.slot == n) hs (λ x. from_here x.slot n) in
    let list : (l ++ map later (by_slot n hs)) ++ map later (only n (filter (held_from n) hs)) ≡ l ++ map later (by_slot n hs ++ only n hs)
    = ap (λ z. (l ++ map later (by_slot n hs)) ++ map later z) here ∙ (append_assoc l (map later (by_slot n hs)) (map later (only n hs)) ∙ ap (λ z. l ++ z) (sym (map-append later (by_slot n hs) (only n hs)))) in
    λ i. record v {
      claims = record v.claims { list = list i; held = filter_twice (λ (h : Handle). not (h.slot == n)) (held_from n) (held_from (suc n)) hs (λ x. from_next x.slot n) i };
      mine = filter_twice (other_owned (v.fixed + n)) (mine_from v.fixed n) (mine_from v.fixed (suc n)) v.mine (λ x. mine_next v.fixed n x.of.slot) i;
      states = filter_twice (other_state n) (states_from n) (states_from (suc n)) v.states (λ x. from_next x.of.slot n) i;
    }

-- a slot that is held is one of the table's
held_low : (fixed count head room words : ℕ) (v : ValueView) → Carries fixed count head room words v → (x : Handle) → Member x v.claims.held → x.slot < count
held_low fixed count head room words v p x m =
    let q = member_map handle_of x v.states (subst (Member x) (sym p.held_is) m) in
    subst (λ (h : Handle). h.slot < count) q.2 (p.out q.0 q.1).1

pub ends : (fixed count head room words : ℕ) (v : ValueView) → Carries fixed count head room words v → (n : ℕ) → n ≡ count → gave_below n v ≡ gave_all v
ends fixed count head room words v p n is =
    let past : (s : ℕ) → s < count → not (ltb s n) ≡ false = λ s l. ap not (lt-ltb s n (omega (arith, l, is))) in
    λ i. record v {
      claims = record v.claims { list = v.claims.list ++ map later (by_slot ((is ∙ sym p.count_is) i) v.claims.held); held = filter_none (held_from n) v.claims.held (λ x m. past x.slot (held_low fixed count head room words v p x m)) i };
      mine = filter_same (mine_from v.fixed n) (is_fixed v.fixed) v.mine (λ x m. let l = (p.mine x m).1 in ap (λ b. ltb x.of.slot v.fixed || not b) (lt-ltb x.of.slot (v.fixed + n) (omega (arith, l, is, p.fixed_is))) ∙ or_false (ltb x.of.slot v.fixed)) i;
      states = filter_none (states_from n) v.states (λ x m. past x.of.slot (p.out x m).1) i;
    }

-- a slot that is out goes back alone
pub gave_one : (v : ValueView) (h : Handle) (s : ℕ) → IsDistinct v.claims.held → Member h v.claims.held → h.slot ≡ s → gave h v ≡ gave_slot s v
gave_one v h s d m is = (λ i. record v {
  claims = record v.claims { list = v.claims.list ++ map later (sym (only_one h v.claims.held d m) i); held = removed h.slot v.claims.held };
  mine = filter (other_owned (v.fixed + h.slot)) v.mine;
  states = filter (other_state h.slot) v.states;
}) ∙ ap (λ k. gave_slot k v) is

pub gave_whole : (v : ValueView) (h : Handle) → 0 < slot_times h.slot v.claims.held → claiming.Accounted v.claims → claiming.Accounted (gave h v).claims
gave_whole v h has a = accounted_returned v.claims a (later h) has

module _ (fixed count head room words : ℕ) (v : ValueView) (p : Carries fixed count head room words v) (s c i n : ℕ) (sole : v.claims.counter ≡ Some c) (t : Tells v i n) (low : s < count) (is : i ≡ suc (count + s)) where
  -- an odd state says that the slot is out
  pub was_out : n % 2 ≡ 1 → IsOut (record { slot = fixed + s; generation = n / 2 }) v
  was_out odd = (told_out fixed count head room words v p (record { slot = fixed + s; generation = n / 2 }) c i n sole t (omega arith) (omega (arith, low)) (omega (arith, is))).0 (omega (arith, odd))

  -- an even one that nothing of it is left to give
  pub was_free : n % 2 ≢ 1 → gave_slot s v ≡ v
  was_free even =
      let none : slot_times s v.claims.held ≡ 0 = ⊎_elim
      (λ (some : 0 < slot_times s v.claims.held).
      let x = found s v.claims.held some in
      let m : Handle = record { slot = fixed + s; generation = x.0.generation } in
      let odd = (told_out fixed count head room words v p m c i n sole t (omega arith) (omega (arith, low)) (omega (arith, is))).1 (x.0, x.1, (let e : v.fixed + x.0.slot ≡ fixed + s = omega (arith, x.2, p.fixed_is) in λ j. record { slot = e j; generation = x.0.generation })) in
      absurd (even (omega (arith, odd))))
      (λ (z : slot_times s v.claims.held ≤ 0). omega (arith, z))
      (cases_lt 0 (slot_times s v.claims.held)) in
      let k = p.count_is in
      let lacks = (t.free c s sole (omega (arith, low, k)) none (omega (arith, is, k))).2 in
      λ j. record v {
        claims = record v.claims { list = (ap (λ l. v.claims.list ++ map later l) (only_none s v.claims.held none) ∙ append-nil v.claims.list) j; held = removed_none s v.claims.held none j };
        mine = filter_all (other_owned (v.fixed + s)) v.mine (λ x m. ap not (ne_eqb x.of.slot (v.fixed + s) (lacks.mine x m))) j;
        states = filter_all (other_state s) v.states (λ x m. ap not (ne_eqb x.of.slot s (λ q. let a = member_times x.of v.claims.held (subst (Member x.of) p.held_is (map_member handle_of x v.states m)) in let b = ap (λ z. slot_times z v.claims.held) q in omega (arith, a, b, none)))) j;
      }
