use Rattle.psac_values.proofs.Terms.{◌≡◌, ◌<◌, ℕ, suc, ◌+◌, ◌-◌, ◌*◌, ◌%◌, List, length, sym, ap, subst, ◌∙◌, arith, mod-lt, cond, one_more, twice, eq-eqb, Handle, Member, word_of, later, slot_times, place, Accounted, map_member, member_times, StateView, ValueView, state_at, free_word, Seat, mark, marked, gave, IsOut, claimed_as, Carries}
use Rattle.psac_values.proofs.Giving.{gave_whole}
use Rattle.psac_values.proofs.Acts.{marks, gives}
use Rattle.psac_values.proofs.Carrying.{carried, state_of, has_room, gave_marked, carries_gave}
use Rattle.psac_values.proofs.values.Values.put_back.Goals as goal

-- the slot is out: its state, where that stands, and what is stored of it
module _ (fixed count head room words : ℕ) (v : ValueView) (p : Carries fixed count head room words v) (m : Handle) (o : IsOut m v) where
  state : (t : StateView) × Member t v.states × (t.of ≡ o.0)
  state = state_of fixed count head room words v p o.0 o.1

  low : o.0.slot < count
  low = omega (arith, (p.out state.0 state.1).1, ap (λ (k : Handle). k.slot) state.2)

  slot : fixed + o.0.slot ≡ m.slot
  slot = omega (arith, ap (λ (k : Handle). k.slot) o.2, p.fixed_is)

  spot : count + (m.slot - fixed) + 1 ≡ state_at v.claims.count o.0.slot
  spot = omega (arith, p.count_is, slot)

  stored : (g n : ℕ) → g ≡ m.generation → n ≡ m.slot - fixed → (g + 1) * 4294967296 + n ≡ word_of (later o.0)
  stored g n is e = omega (arith, ap (λ (k : Handle). k.generation) o.2, is, e, slot)

  -- what the two stores leave
  gone : (g n : ℕ) (hs : List (ℕ × Unit {0})) (one two : Seat) → g ≡ m.generation → n ≡ m.slot - fixed → m.generation < 4294967295 → one ≡ (marked o.0.slot (2 * (g + 1)) v, hs)
      → ((h : Handle) → Member h one.0.claims.held → h.generation < 4294967295 → (g + 1) * 4294967296 + n ≡ word_of (later h) → two ≡ (gave h one.0, one.1)) → two ≡ (gave o.0 v, hs)
  gone g n hs one two is e less first second =
      second o.0 (subst (λ (u : Seat). Member o.0 u.0.claims.held) (sym first) o.1) (omega (arith, ap (λ (k : Handle). k.generation) o.2, less)) (stored g n is e)
      ∙ (ap (λ (u : Seat). (gave o.0 u.0, u.1)) first ∙ ap (λ u. (u, hs)) (gave_marked o.0 (2 * (g + 1)) v))

pub store-requires : goal.store-requires
store-requires c =
    let p = c.pass.invariant.1 in
    let v = c.pass.inside.seat.me.0 in
    let o = subst (λ (v : ValueView). IsOut c.args.m v) (sym (ap (λ p. p.knows) c.pass.view_is)) c.requires.out in
    let t = ap (λ p. p.table) c.pass.view_is ∙ (c.requires.table ∙ sym c.self.view_is) in
    let s = state _ _ _ _ _ v p c.args.m o in
    let there = spot _ _ _ _ _ v p c.args.m o ∙ ap (λ (h : Handle). state_at v.claims.count h.slot) (sym s.2) in
    (t, omega (arith, ap (λ z. z.words) t, p.words_is, low _ _ _ _ _ v p c.args.m o, slot _ _ _ _ _ v p c.args.m o), marks _ _ _ _ _ v c.pass.inside.seat.me.1 p.live s.0 _ s.1 there)

pub store-requires-2 : goal.store-requires-2
store-requires-2 c =
    let p = c.pass.invariant.1 in
    let v = c.pass.inside.seat.me.0 in
    let is = ap (λ p. p.knows) c.pass.view_is in
    let o = subst (λ (v : ValueView). IsOut c.args.m v) (sym is) c.requires.out in
    let h = o.0 in
    let s = state _ _ _ _ _ v p c.args.m o in
    let t = ap (λ p. p.table) c.pass.view_is ∙ (c.requires.table ∙ sym c.self.view_is) in
    let x = 2 * (c.from-generation.result + 1) in
    let g = ap (λ m. m.0) (c.store.ensures.2 h.slot (spot _ _ _ _ _ v p c.args.m o)) in
    let now = c.store.new.seat.me.0 in
    let mt = subst (λ (u : ValueView). Member (mark h.slot x s.0) u.states) (sym g) (map_member (mark h.slot x) s.0 v.states s.1) in
    let ge = ap (λ (k : Handle). k.generation) o.2 in
    let word : (mark h.slot x s.0).word ≡ free_word (later h) = ap (λ b. cond b x s.0.word) (eq-eqb s.0.of.slot h.slot (ap (λ (k : Handle). k.slot) s.2)) ∙ twice _ _ (omega (arith, c.from-generation.ensures, ge)) in
    let q3 = c.from-3.ensures in
    let room = has_room _ _ _ _ _ v h p o.1 (subst (λ (v : ValueView). Accounted v.claims) (sym is) c.requires.whole) in
    let m = mod-lt (c.from.result + c.from-2.result) {m = c.from-3.result} (omega (arith, q3, room)) in
    let here : (c.from.result + c.from-2.result) % c.from-3.result + 1 ≡ place now.claims.count (now.claims.head + length now.claims.list) = one_more _ ∙ (λ j. suc (((c.from.ensures ∙ (sym p.head_is ∙ sym (ap (λ (u : ValueView). u.claims.head) g))) j + (c.from-2.ensures ∙ (sym p.room_is ∙ sym (ap (λ (u : ValueView). length u.claims.list) g))) j) % (c.from-3.ensures ∙ (sym p.count_is ∙ sym (ap (λ (u : ValueView). u.claims.count) g))) j)) in
    (c.store.ensures.0 ∙ t, omega (arith, ap (λ z. z.words) t, p.words_is, m, q3), gives _ _ _ _ _ _ now c.store.new.seat.me.1 h (ap (λ (u : ValueView). u.claims.counter) (g ∙ ap (marked h.slot x) is) ∙ c.requires.begun) (subst (λ (u : ValueView). Member h u.claims.held) (sym g) o.1) (omega (arith, ge, c.requires.next)) (mark h.slot x s.0) mt s.2 word here (stored _ _ _ _ _ v p c.args.m o _ _ c.from-generation.ensures c.from-4.ensures))

pub returns-clause-gave : goal.returns-clause-gave
returns-clause-gave c =
    let p = c.pass.invariant.1 in
    let v = c.pass.inside.seat.me.0 in
    let e = ap (λ p. p.knows) c.pass.view_is in
    let o = subst (λ (v : ValueView). IsOut c.args.m v) (sym e) c.requires.out in
    let done = gone _ _ _ _ _ v p c.args.m o _ _ _ _ _ c.from-generation.ensures c.from-4.ensures c.requires.next (c.store.ensures.2 o.0.slot (spot _ _ _ _ _ v p c.args.m o)) c.store-2.ensures.2 in
    let same : o.0.slot ≡ c.args.m.slot - c.args.pass.now.knows.fixed = omega (arith, ap (λ (h : Handle). h.slot) o.2, ap (λ (u : ValueView). u.fixed) e) in
    ap (λ m. m.0) done ∙ (λ j. gave (record { slot = same j; generation = ap (λ (h : Handle). h.generation) o.2 j }) (e j))

pub returns-clause-whole : goal.returns-clause-whole
returns-clause-whole c =
    let v = c.args.pass.now.knows in
    let o = c.requires.out in
    let t = member_times o.0 v.claims.held o.1 in
    let e : o.0.slot ≡ c.args.m.slot - v.fixed = omega (arith, ap (λ (k : Handle). k.slot) o.2) in
    subst (λ (u : ValueView). Accounted u.claims) (sym (returns-clause-gave c)) (gave_whole v (claimed_as c.args.m v) (subst (λ k. 0 < slot_times k v.claims.held) e (omega (arith, t))) c.requires.whole)

pub invariant_of-pass : goal.invariant_of-pass
invariant_of-pass c =
    let p = c.pass.invariant.1 in
    let v = c.pass.inside.seat.me.0 in
    let is = ap (λ p. p.knows) c.pass.view_is in
    let o = subst (λ (v : ValueView). IsOut c.args.m v) (sym is) c.requires.out in
    let room = has_room _ _ _ _ _ v o.0 p o.1 (subst (λ (v : ValueView). Accounted v.claims) (sym is) c.requires.whole) in
    let done = gone _ _ _ _ _ v p c.args.m o _ _ _ _ _ c.from-generation.ensures c.from-4.ensures c.requires.next (c.store.ensures.2 o.0.slot (spot _ _ _ _ _ v p c.args.m o)) c.store-2.ensures.2 in
    (ap (λ m. m.1) done ∙ c.pass.invariant.0, carried _ _ _ _ _ _ (carries_gave _ _ _ _ _ v p o.0 room) _ _ (ap (λ z. z.words) (c.store-2.ensures.0 ∙ c.store.ensures.0)) (ap (λ m. m.0) done))
