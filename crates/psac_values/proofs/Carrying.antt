-- What a pass of values carries after each step, and what it reads.
use Rattle.psac_values.proofs.Terms.{◌≡◌, ◌≢◌, ℕ, suc, ◌+◌, ◌-◌, ◌*◌, ◌/◌, ◌%◌, ◌<◌, ◌≤◌, List, [], ◌∷◌, ◌++◌, map, length, set, take, Bool, true, false, refl, sym, ap, ◌∙◌, subst, inl, inr, ⊎_elim, arith, Option, Some, None, cond, filter, not, ◌==◌, length-map, map-append, cases_lt, eq-eqb, ne_eqb, cases_Bool, sum_by_push, bit, member_times, claimed_entry, some, get_elem?, Handle, stem, Member, slot_times, later, removed, stays, goes, lends, above, comes_back, member_left, member_right, member_cases, member_filter, filter_member, member_map, map_member, OwnedView, KnownView, StateView, ValueView, handle_of, value_at, out_word, ways, Meeting, Tells, looked, put, wrote_word, mark, marked, drew, new_owned, new_state, left_of, right_of, joined, learned, rewound, gave, other_owned, other_state, Knows, all_words, rewritten, took, United, IsOut, Carries, same_slot, filtered, found, Ringed, ringed_rewound, ringed_returned}
use Rattle.psac_slots.specs.Claiming as claiming
use Rattle.psac_slots.proofs.Carrying as ring
use Rattle.psac_values.proofs.Keeps.{back_again, mark_of}

module _ (fixed count head room words : ℕ) (v : ValueView) (p : Carries fixed count head room words v) where
  ring_here : Ringed count head room v.claims
  ring_here = (p.live, p.count_is, p.head_is, p.room_is, p.room_fits, p.head_fits)

  -- a ring, and the same sizes
  pub renewed : (at left : ℕ) (w : ValueView) → Ringed count at left w.claims → w.fixed ≡ v.fixed → w.met ≡ None → map handle_of w.states ≡ w.claims.held
      → ((t : StateView) → Member t w.states → (t.word ≡ out_word t.of) × (t.of.slot < count))
      → ((z : OwnedView) → Member z w.mine → (length z.words ≡ 3) × (z.of.slot < fixed + count))
      → ((e : KnownView) → Member e w.known → (length e.words ≡ 3) × (e.of.slot < fixed + count))
      → Carries fixed count at left words w
  renewed at left w r f m held out mine known = record {
    live = r.0;
    fixed_is = f ∙ p.fixed_is;
    count_is = r.1;
    head_is = r.2;
    room_is = r.3;
    room_fits = r.4;
    head_fits = r.5;
    words_is = p.words_is;
    small = p.small;
    settled = m;
    out = out;
    held_is = held;
    mine = mine;
    known = known;
  }

  -- so does a view that is this one, of a table of that size
  pub carried : (size : ℕ) (w : ValueView) → size ≡ words → w ≡ v → Carries fixed count head room size w
  carried size w e f = subst (λ (x : ℕ × ValueView). Carries fixed count head room x.0 x.1) (λ j. (sym e j, sym f j)) p

  pub carries_looked : Carries fixed count head room words (looked v)
  carries_looked = renewed head room (looked v) ring_here refl p.settled p.held_is p.out p.mine p.known

  pub carries_learned : (n : ℕ) → Carries fixed count head room words (learned n v)
  carries_learned n = renewed head room (learned n v) ring_here refl p.settled p.held_is p.out p.mine p.known

  pub carries_word : (s j x : ℕ) → Carries fixed count head room words (wrote_word s j x v)
  carries_word s j x = renewed head room (wrote_word s j x v) ring_here refl p.settled p.held_is p.out
      (λ z m. let q = member_map (put s j x) z v.mine m in subst (λ (y : OwnedView). (length y.words ≡ 3) × (y.of.slot < fixed + count)) q.2 (put_long q.0 (p.mine q.0 q.1)))
      p.known
    where
      put_long : (z : OwnedView) → (length z.words ≡ 3) × (z.of.slot < fixed + count) → (length (put s j x z).words ≡ 3) × (z.of.slot < fixed + count)
      put_long z l = (long (z.of.slot == s), l.1)
        where
          long : (b : Bool) → length (cond b (set z.words j (Some x)) z.words) ≡ 3
          long true = Rattle.std.proofs.Common.length-set z.words j (Some x) ∙ l.0
          long false = l.0

  held_drawn : (n : ℕ) → map handle_of (drew v n).states ≡ (drew v n).claims.held
  held_drawn n = map-append handle_of v.states (map new_state (claiming.entry v.claims.list n)) ∙ (λ i. p.held_is i ++ back_again (claiming.entry v.claims.list n) i)

  -- a claim past the room changes the drawn indexes alone
  pub carries_past : (n : ℕ) → claiming.entry v.claims.list n ≡ [] → Carries fixed count head room words (drew v n)
  carries_past n e = renewed head room (drew v n) ring_here refl p.settled (held_drawn n)
      (λ t m. ⊎_elim (λ q. p.out t q) (λ q. absurd (subst (Member t) (ap (map new_state) e) q)) (member_cases t v.states (map new_state (claiming.entry v.claims.list n)) m))
      (λ z m. ⊎_elim (λ q. p.mine z q) (λ q. absurd (subst (Member z) (ap (map (new_owned v.fixed)) e) q)) (member_cases z v.mine (map (new_owned v.fixed) (claiming.entry v.claims.list n)) m))
      p.known

  -- a claim of a slot, which is out from then on
  pub carries_took : (n : ℕ) (h : Handle) → claiming.entry v.claims.list n ≡ h ∷ [] → h.slot < v.claims.count → slot_times h.slot (map handle_of v.states ++ h ∷ []) ≤ 1 → Carries fixed count head room words (took v n h)
  carries_took n h e low once = renewed head room (took v n h) ring_here refl p.settled (mark_of h.slot (out_word h) (drew v n).states ∙ held_drawn n)
      (λ t m.
      let q = member_map (mark h.slot (out_word h)) t (drew v n).states m in
      subst (λ (t : StateView). (t.word ≡ out_word t.of) × (t.of.slot < count)) q.2 (⊎_elim
      (λ old. let apart : q.0.of.slot ≢ h.slot = λ is. twice q.0 old is in (ap (λ b. cond b (out_word h) q.0.word) (ne_eqb q.0.of.slot h.slot apart) ∙ (p.out q.0 old).0, (p.out q.0 old).1))
      (λ new. let x = member_map new_state q.0 (claiming.entry v.claims.list n) new in let y = subst (Member x.0) e x.1 in
      let is : h ≡ q.0.of = ⊎_elim (λ z. z ∙ ap (λ (k : StateView). k.of) x.2) (λ z. absurd z) y in
      let s = ap (λ (k : Handle). k.slot) is in let b = p.count_is in
      (ap (λ b. cond b (out_word h) q.0.word) (eq-eqb q.0.of.slot h.slot (sym s)) ∙ ap out_word is, omega (arith, low, s, b)))
      (member_cases q.0 v.states (map new_state (claiming.entry v.claims.list n)) q.1)))
      (λ z m. ⊎_elim (λ q. p.mine z q)
      (λ q. let x = member_map (new_owned v.fixed) z (claiming.entry v.claims.list n) q in let y = subst (Member x.0) e x.1 in
      let is : h ≡ x.0 = ⊎_elim (λ z. z) (λ z. absurd z) y in
      let s = ap (λ (k : Handle). k.slot) is in let a = p.fixed_is in let b = p.count_is in
      subst (λ (y : OwnedView). (length y.words ≡ 3) × (y.of.slot < fixed + count)) x.2 (refl, omega (arith, low, s, a, b)))
      (member_cases z v.mine (map (new_owned v.fixed) (claiming.entry v.claims.list n)) m))
      p.known
    where
      twice : (t : StateView) → Member t v.states → t.of.slot ≡ h.slot → ⊥
      twice t m is =
          let a = member_times t.of (map handle_of v.states) (map_member handle_of t v.states m) in
          let b = sum_by_push (λ (k : Handle). cond (k.slot == h.slot) 1 0) (map handle_of v.states) h in
          let one : bit (h.slot == h.slot) ≡ 1 = ap bit (eq-eqb h.slot h.slot refl) in
          omega (arith, a, b, one, ap (λ k. slot_times k (map handle_of v.states)) is, once)

  pub carries_left : (shared to_right : ℕ → Bool) → Carries fixed count head room words (left_of shared to_right v)
  carries_left shared to_right = renewed head room (left_of shared to_right v) ring_here refl refl p.held_is p.out (λ z m. p.mine z (member_filter (stays ways shared to_right) z v.mine m).0)
      (λ e m. ⊎_elim (λ q. p.known e q) (λ q. let x = member_map (ways.lend v.claims.branch) e (filter (lends ways shared to_right) v.mine) q in subst (λ (k : KnownView). (length k.words ≡ 3) × (k.of.slot < fixed + count)) x.2 (p.mine x.0 (member_filter (lends ways shared to_right) x.0 v.mine x.1).0))
      (member_cases e v.known (map (ways.lend v.claims.branch) (filter (lends ways shared to_right) v.mine)) m))

  pub carries_right : (shared to_right : ℕ → Bool) → Carries fixed count head room words (right_of shared to_right v)
  carries_right shared to_right = let l = carries_left shared to_right in renewed head room (right_of shared to_right v) (refl, p.count_is, p.head_is, p.room_is, p.room_fits, p.head_fits) refl refl refl (λ t m. absurd m) (λ z m. p.mine z (member_filter (goes ways shared to_right) z v.mine m).0) l.known

  pub carries_joined : (w : ValueView) → map handle_of w.states ≡ w.claims.held → ((t : StateView) → Member t w.states → t.word ≡ out_word t.of) → ((t : StateView) → Member t (joined v w).states → t.of.slot < v.claims.count)
      → ((z : OwnedView) → Member z (joined v w).mine → (length z.words ≡ 3) × (z.of.slot < v.fixed + v.claims.count)) → Carries fixed count head room words (joined v w)
  carries_joined w held out low mine = renewed head room (joined v w) ring_here refl refl
      (map-append handle_of v.states w.states ∙ (λ i. p.held_is i ++ held i))
      (λ t m. (⊎_elim (λ q. (p.out t q).0) (λ q. out t q) (member_cases t v.states w.states m), let l = low t m in let b = p.count_is in omega (arith, l, b)))
      (λ z m. let q = mine z m in let l = q.1 in let a = p.fixed_is in let b = p.count_is in (q.0, omega (arith, l, a, b)))
      (λ e m. p.known e (member_filter (above ways (stem v.claims.branch)) e v.known m).0)

  pub carries_gave : (x : Handle) → room < count → Carries fixed count head (room + 1) words (gave x v)
  carries_gave x less = renewed head (room + 1) (gave x v) (ringed_returned count head room v.claims ring_here (later x) less) refl p.settled
      (filtered handle_of x.slot v.states ∙ ap (removed x.slot) p.held_is) (λ t m. p.out t (member_filter (other_state x.slot) t v.states m).0)
      (λ z m. p.mine z (member_filter (other_owned (v.fixed + x.slot)) z v.mine m).0) p.known

  pub carries_rewound : (gone : ℕ) → length (take (claiming.counted v.claims.counter) v.claims.list) ≡ gone → Carries fixed count (claiming.turned count (head + gone)) (room - gone) words (rewound v)
  carries_rewound gone e = renewed (claiming.turned count (head + gone)) (room - gone) (rewound v) (ringed_rewound count head room v.claims ring_here gone e) refl p.settled
      p.held_is p.out p.mine p.known

-- what was drawn and loaded is the list's entry
pub found_here : (fixed count head room words : ℕ) (v : ValueView) → Carries fixed count head room words v → (n word i : ℕ) → n < length v.claims.list → i ≡ suc ((head + n) % count) → Tells (drew v n) i word
    → claiming.entry v.claims.list n ≡ record { slot = word % 4294967296; generation = word / 4294967296 } ∷ []
found_here fixed count head room words v p n word i small is t =
    let spot : i ≡ claiming.place v.claims.count (v.claims.head + n) = is ∙ (λ j. suc ((sym p.head_is j + n) % sym p.count_is j)) in
    claimed_entry v.claims.list n word small (λ h e. t.entry n spot h e)

-- the handle that was drawn is held once
pub drawn_once : (v : ValueView) (n : ℕ) (h : Handle) (i word : ℕ) → claiming.entry v.claims.list n ≡ h ∷ [] → Tells (drew v n) i word → slot_times h.slot (map handle_of v.states ++ h ∷ []) ≤ 1
drawn_once v n h i word e t =
    let a : map handle_of v.states ++ h ∷ [] ≡ (drew v n).claims.held = (λ j. map handle_of v.states ++ map handle_of (map new_state (sym e j))) ∙ (sym (map-append handle_of v.states (map new_state (claiming.entry v.claims.list n))) ∙ t.held_is) in
    subst (λ hs. slot_times h.slot hs ≤ 1) (sym a) (t.once h.slot)

three : (ws : List ℕ) → length ws ≡ 3 → (a : ℕ) × (b : ℕ) × (c : ℕ) × (ws ≡ a ∷ b ∷ c ∷ [])
three [] e = absurd (omega (arith, e))
three (a ∷ []) e = absurd (omega (arith, e))
three (a ∷ b ∷ []) e = absurd (omega (arith, e))
three (a ∷ b ∷ c ∷ []) e = (a, b, c, refl)
three (a ∷ b ∷ c ∷ d ∷ ws) e = absurd (omega (arith, e))

at_place : (ws : List (Option ℕ)) (a b c : ℕ) → ws ≡ all_words (a ∷ b ∷ c ∷ []) → (get_elem? ws 0 ≡ some (Some a)) × (get_elem? ws 1 ≡ some (Some b)) × (get_elem? ws 2 ≡ some (Some c))
at_place ws a b c e = (ap (λ z. get_elem? z 0) e, ap (λ z. get_elem? z 1) e, ap (λ z. get_elem? z 2) e)

-- what three loads gave is what the pass knows
pub words_read : (fixed count head room words : ℕ) (v : ValueView) → Carries fixed count head room words v → (m : Handle) (ws : List ℕ) (i a b c : ℕ) → Knows v m ws
    → i ≡ value_at v.claims.count m.slot 0 → Tells v i a → Tells (looked v) (suc i) b → Tells (looked v) (suc (suc i)) c → a ∷ b ∷ c ∷ [] ≡ ws
words_read fixed count head room words v p m ws i a b c knows is s t u = ⊎_elim
    (λ (k : (w : OwnedView) × Member w v.mine × (w.of ≡ m) × (w.words ≡ all_words ws)).
    let l = (p.mine k.0 k.1).0 in let q = three ws (let e = ap length k.3 in let f = length-map ws (λ (x : ℕ). Some x) in omega (arith, l, e, f)) in
    let g = at_place k.0.words q.0 q.1 q.2 (k.3 ∙ ap all_words q.3) in let o = ap (λ (h : Handle). h.slot) k.2 in
    (λ j. s.mine k.0 0 q.0 k.1 (omega (arith, is, o)) g.0 j ∷ t.mine k.0 1 q.1 k.1 (omega (arith, is, o)) g.1 j ∷ u.mine k.0 2 q.2 k.1 (omega (arith, is, o)) g.2 j ∷ []) ∙ sym q.3)
    (λ (k : (e : KnownView) × Member e v.known × (e.of ≡ m) × (e.words ≡ all_words ws)).
    let l = (p.known k.0 k.1).0 in let q = three ws (let e = ap length k.3 in let f = length-map ws (λ (x : ℕ). Some x) in omega (arith, l, e, f)) in
    let g = at_place k.0.words q.0 q.1 q.2 (k.3 ∙ ap all_words q.3) in let o = ap (λ (h : Handle). h.slot) k.2 in
    (λ j. s.known k.0 0 q.0 k.1 (omega (arith, is, o)) g.0 j ∷ t.known k.0 1 q.1 k.1 (omega (arith, is, o)) g.1 j ∷ u.known k.0 2 q.2 k.1 (omega (arith, is, o)) g.2 j ∷ []) ∙ sym q.3)
    knows

-- a known slot is one of the table's
pub known_low : (fixed count head room words : ℕ) (v : ValueView) → Carries fixed count head room words v → (m : Handle) (ws : List ℕ) → Knows v m ws → m.slot < fixed + count
known_low fixed count head room words v p m ws knows = ⊎_elim
    (λ (k : (w : OwnedView) × Member w v.mine × (w.of ≡ m) × (w.words ≡ all_words ws)). subst (λ (h : Handle). h.slot < fixed + count) k.2 (p.mine k.0 k.1).1)
    (λ (k : (e : KnownView) × Member e v.known × (e.of ≡ m) × (e.words ≡ all_words ws)). subst (λ (h : Handle). h.slot < fixed + count) k.2 (p.known k.0 k.1).1)
    knows

-- three stores put three words
rewrites_one : (s a b c : ℕ) (w : OwnedView) → length w.words ≡ 3 → put s 2 c (put s 1 b (put s 0 a w)) ≡ rewritten s (a ∷ b ∷ c ∷ []) w
rewrites_one s a b c w l = λ i. record { of = w.of; words = same (w.of.slot == s) w.words l i }
  where
    same : (t : Bool) (ws : List (Option ℕ)) → length ws ≡ 3 → cond t (set (cond t (set (cond t (set ws 0 (Some a)) ws) 1 (Some b)) (cond t (set ws 0 (Some a)) ws)) 2 (Some c)) (cond t (set (cond t (set ws 0 (Some a)) ws) 1 (Some b)) (cond t (set ws 0 (Some a)) ws)) ≡ cond t (Some a ∷ Some b ∷ Some c ∷ []) ws
    same false ws e = refl
    same true [] e = absurd (omega (arith, e))
    same true (x ∷ []) e = absurd (omega (arith, e))
    same true (x ∷ y ∷ []) e = absurd (omega (arith, e))
    same true (x ∷ y ∷ z ∷ []) e = refl
    same true (x ∷ y ∷ z ∷ t ∷ ws) e = absurd (omega (arith, e))

pub rewrites : (s a b c : ℕ) (ws : List OwnedView) → ((w : OwnedView) → Member w ws → length w.words ≡ 3) → map (put s 2 c) (map (put s 1 b) (map (put s 0 a) ws)) ≡ map (rewritten s (a ∷ b ∷ c ∷ [])) ws
rewrites s a b c [] l = refl
rewrites s a b c (w ∷ ws) l = λ i. rewrites_one s a b c w (l w (inl refl)) i ∷ rewrites s a b c ws (λ z m. l z (inr m)) i

-- what two sides are together
pub unites_views : (v w : ValueView) → Meeting (record { left = v.mine; right = w.mine; known_left = v.known; known_right = w.known }) → United v w (joined v w)
unites_views v w m =
    let back = map ways.back (filter (comes_back ways (stem v.claims.branch)) v.known) in
    let from_left : (z : OwnedView) → Member z v.mine → Member z (joined v w).mine = λ z q. member_left z (v.mine ++ w.mine) back (member_left z v.mine w.mine q) in
    let from_right : (z : OwnedView) → Member z w.mine → Member z (joined v w).mine = λ z q. member_left z (v.mine ++ w.mine) back (member_right z v.mine w.mine q) in
    let shared : (h : Handle) (ws : List ℕ) (e : KnownView) → Member e v.known → e.of ≡ h → e.words ≡ all_words ws → Knows (joined v w) h ws = λ h ws e q of is. ⊎_elim
    (λ (t : above ways (stem v.claims.branch) e ≡ true). inr (e, filter_member (above ways (stem v.claims.branch)) e v.known q t, of, is))
    (λ (f : above ways (stem v.claims.branch) e ≡ false). inl (ways.back e, member_right (ways.back e) (v.mine ++ w.mine) back (map_member ways.back e (filter (comes_back ways (stem v.claims.branch)) v.known) (filter_member (comes_back ways (stem v.claims.branch)) e v.known q (ap not f))), of, is))
    (cases_Bool (above ways (stem v.claims.branch) e)) in
    record {
      left_alone = λ z q. record { mine = λ y r e. m.alone z y q r (sym e); known = λ e r is. m.left z e q r is };
      right_alone = λ z q. record { mine = λ y r e. m.alone y z r q e; known = λ e r is. m.right z e q r is };
      has = λ h o. ⊎_elim (λ q. (q.0, from_left q.0 q.1, q.2)) (λ q. (q.0, from_right q.0 q.1, q.2)) o;
      knows = λ h ws o. ⊎_elim
          (λ q. ⊎_elim (λ k. inl (k.0, from_left k.0 k.1, k.2, k.3)) (λ k. shared h ws k.0 k.1 k.2 k.3) q)
          (λ q. ⊎_elim (λ k. inl (k.0, from_right k.0 k.1, k.2, k.3)) (λ k. shared h ws k.0 (m.same k.0 k.1) k.2 k.3) q)
          o;
    }

-- the state of a held slot
pub state_of : (fixed count head room words : ℕ) (v : ValueView) → Carries fixed count head room words v → (x : Handle) → Member x v.claims.held → (t : StateView) × Member t v.states × (t.of ≡ x)
state_of fixed count head room words v p x m = let q = member_map handle_of x v.states (subst (Member x) (sym p.held_is) m) in (q.0, q.1, q.2)

-- the state word of a slot of the table says whether a made modifiable is out
pub told_out : (fixed count head room words : ℕ) (v : ValueView) → Carries fixed count head room words v → (m : Handle) (c i n : ℕ) → v.claims.counter ≡ Some c → Tells v i n → fixed ≤ m.slot → m.slot - fixed < count → i ≡ suc (count + (m.slot - fixed))
    → (n ≡ suc (2 * m.generation) → IsOut m v) × (IsOut m v → n ≡ suc (2 * m.generation))
told_out fixed count head room words v p m c i n sole t above low is =
    let s = m.slot - fixed in
    let k = p.count_is in
    let fx = p.fixed_is in
    ⊎_elim
    (λ (some : 0 < slot_times s v.claims.held).
    let x = found s v.claims.held some in
    let st = state_of fixed count head room words v p x.0 x.1 in
    let same = ap (λ (h : Handle). h.slot) st.2 in
    let xs = x.2 in
    let word = t.state st.0 st.1 (omega (arith, is, k, same, xs)) ∙ ((p.out st.0 st.1).0 ∙ ap out_word st.2) in (
      λ e. (x.0, x.1, let g : x.0.generation ≡ m.generation = omega (arith, word, e) in let sl : v.fixed + x.0.slot ≡ m.slot = omega (arith, xs, fx, above) in λ j. record { slot = sl j; generation = g j }),
      λ (o : IsOut m v). let sl = ap (λ (h : Handle). h.slot) o.2 in let one = same_slot v.claims.held x.0 o.0 t.once x.1 o.1 (omega (arith, xs, sl, fx)) in let g = ap (λ (h : Handle). h.generation) one in let g' = ap (λ (h : Handle). h.generation) o.2 in omega (arith, word, g, g'),
    ))
    (λ (none : slot_times s v.claims.held ≤ 0).
    let w = (t.free c s sole (omega (arith, low, k)) (omega (arith, none)) (omega (arith, is, k))).1 in (
      λ e. absurd (omega (arith, w, e)),
      λ (o : IsOut m v). let sl = ap (λ (h : Handle). h.slot) o.2 in let a = member_times o.0 v.claims.held o.1 in let same : o.0.slot ≡ s = omega (arith, sl, fx) in let b = ap (λ k. slot_times k v.claims.held) same in absurd (omega (arith, a, b, none)),
    ))
    (cases_lt 0 (slot_times s v.claims.held))

-- a made modifiable that is out stands in the table
pub out_low : (fixed count head room words : ℕ) (v : ValueView) → Carries fixed count head room words v → (m : Handle) → IsOut m v → m.slot < fixed + count
out_low fixed count head room words v p m o =
    let st = state_of fixed count head room words v p o.0 o.1 in
    omega (arith, (p.out st.0 st.1).1, ap (λ (h : Handle). h.slot) st.2, ap (λ (h : Handle). h.slot) o.2, p.fixed_is)

marked_one : (s x : ℕ) (t : StateView) (ts us : List StateView) → us ≡ ts → (b : Bool) → (t.of.slot == s) ≡ b → cond (not b) (mark s x t ∷ us) us ≡ cond (not b) (t ∷ ts) ts
marked_one s x t ts us e true is = e
marked_one s x t ts us e false is = λ i. record { of = t.of; word = ap (λ b. cond b x t.word) is i } ∷ e i

-- the states of other slots, whatever one of them is marked with
pub marked_else : (s x : ℕ) (ts : List StateView) → filter (other_state s) (map (mark s x) ts) ≡ filter (other_state s) ts
marked_else s x [] = refl
marked_else s x (t ∷ ts) = marked_one s x t (filter (other_state s) ts) (filter (other_state s) (map (mark s x) ts)) (marked_else s x ts) (t.of.slot == s) refl

-- a slot that is out goes back whatever its state is marked with
pub gave_marked : (h : Handle) (x : ℕ) (v : ValueView) → gave h (marked h.slot x v) ≡ gave h v
gave_marked h x v = λ i. record v { claims = claiming.gave h v.claims; mine = filter (other_owned (v.fixed + h.slot)) v.mine; states = marked_else h.slot x v.states i }

-- where a slot is out, the ring has room
pub has_room : (fixed count head room words : ℕ) (v : ValueView) (x : Handle) → Carries fixed count head room words v → Member x v.claims.held → claiming.Accounted v.claims → room < count
has_room fixed count head room words v x p has a = let r = ring.has_room v.claims a x (member_times x v.claims.held has) in let c = p.count_is in let d = p.room_is in omega (arith, r, c, d)
