use Rattle.psac_values.proofs.Terms.{ℕ, suc, ◌+◌, ◌*◌, ◌%◌, ◌∷◌, ◌++◌, [], map, ◌≤◌, ◌<◌, ◌≡◌, length, sym, ap, subst, ◌∙◌, arith, mod-lt, refl, inl, one_more, handle_at, past_entry, within, Step, Member, slot_times, entry, member_right, map_member, ValueView, state_at, handle_of, Seat, Drew, Loaded, Tells, Lacks, drew, new_state, marked, Carries, took}
use Rattle.psac_values.proofs.Acts.{draws, loads, marks}
use Rattle.psac_values.proofs.Carrying.{carried, carries_past, carries_took, found_here, drawn_once}
use Rattle.psac_values.proofs.values.Values.claim.Goals as goal

pub fetch_add-index-requires : goal.fetch_add-index-requires
fetch_add-index-requires c =
    let is = c.pass.view_is in
    let p = c.pass.invariant.1 in
    let t = ap (λ p. p.table) is ∙ (c.requires.table ∙ sym c.self.view_is) in
    (t, omega (arith, ap (λ z. z.words) t, p.words_is), draws _ _ _ _ c.pass.inside.seat.me.0 c.pass.inside.seat.me.1 p.live (ap (λ p. p.knows.claims.over) is ∙ c.requires.room))

pub load-word-requires : goal.load-word-requires
load-word-requires c =
    let p = c.pass.invariant.1 in
    let d = c.fetch_add-index.ensures in
    let t = ap (λ p. p.table) c.pass.view_is ∙ (c.requires.table ∙ sym c.self.view_is) in
    let k = c.from-2.ensures in
    let m = mod-lt (c.from.result + c.fetch_add-index.result) {m = c.from-2.result} (omega (arith, c.if-index-room.false, c.from-room.ensures, k, p.room_fits)) in
    (d.0 ∙ t, omega (arith, ap (λ z. z.words) t, p.words_is, m, k), loads _ _ _ _ _ c.fetch_add-index.new.seat.me.0 c.fetch_add-index.new.seat.me.1 (ap (λ m. m.0.claims.live) d.2.drawn ∙ p.live))

-- what a claim has after the load: the word is the list's entry at the index, a handle that the pass lacked
record Got (me two : Seat) (n word : ℕ) : Type 0 where
  drawn : two ≡ (drew me.0 n, me.1)
  listed : entry me.0.claims.list n ≡ handle_at word ∷ []
  member : Member (handle_at word) (entry me.0.claims.list n)
  low : (handle_at word).slot < me.0.claims.count
  lacks : Lacks me.0 (me.0.fixed + (handle_at word).slot)
  once : slot_times (handle_at word).slot (map handle_of me.0.states ++ handle_at word ∷ []) ≤ 1

got : (fixed count head room words n word from size : ℕ) (s t : Step (Unit {0})) (me one two : Seat) (p : Carries fixed count head room words me.0) → Drew s me n one → Loaded t one word two
    → t.word ≡ (from + n) % size + 1 → from ≡ head → size ≡ count → n < length me.0.claims.list → Got me two n word
got fixed count head room words n word from size s t me one two p d l is a b small =
    let tells = subst (λ (k : ValueView). Tells k t.word word) (ap (λ m. m.0) d.drawn) l.tells in
    let f = found_here fixed count head room words me.0 p n word t.word small (is ∙ (one_more _ ∙ (λ j. suc ((a j + n) % b j)))) tells in
    let mem : Member (handle_at word) (entry me.0.claims.list n) = subst (Member (handle_at word)) (sym f) (inl refl) in
    record { drawn = l.same ∙ d.drawn; listed = f; member = mem; low = d.low (handle_at word) mem; lacks = d.new (handle_at word) mem; once = drawn_once me.0 n (handle_at word) t.word word f tells }

pub store-requires : goal.store-requires
store-requires c =
    let p = c.pass.invariant.1 in
    let v = c.pass.inside.seat.me.0 in
    let n = c.fetch_add-index.result in
    let h = handle_at c.load-word.result in
    let g = got _ _ _ _ _ n _ _ _ _ _ _ _ _ p c.fetch_add-index.ensures.2 c.load-word.ensures.2 refl c.from.ensures c.from-2.ensures (omega (arith, c.if-index-room.false, c.from-room.ensures, p.room_is)) in
    let t = ap (λ p. p.table) c.pass.view_is ∙ (c.requires.table ∙ sym c.self.view_is) in
    let mine = subst (λ (u : Seat). Member (new_state h) u.0.states) (sym g.drawn) (member_right (new_state h) v.states (map new_state (entry v.claims.list n)) (map_member new_state h (entry v.claims.list n) g.member)) in
    let spot : c.pass.inside.count + h.slot + 1 ≡ state_at c.load-word.new.seat.me.0.claims.count h.slot = omega (arith, p.count_is, ap (λ (u : Seat). u.0.claims.count) g.drawn) in
    (c.load-word.ensures.0 ∙ (c.fetch_add-index.ensures.0 ∙ t), omega (arith, ap (λ z. z.words) t, p.words_is, g.low, p.count_is), marks _ _ _ _ _ c.load-word.new.seat.me.0 c.load-word.new.seat.me.1 (ap (λ (u : Seat). u.0.claims.live) g.drawn ∙ p.live) (new_state h) _ mine spot)

pub overflow_add-result : goal.overflow_add-result
overflow_add-result c =
    let p = c.pass.invariant.1 in
    let g = got _ _ _ _ _ _ _ _ _ _ _ _ _ _ p c.fetch_add-index.ensures.2 c.load-word.ensures.2 refl c.from.ensures c.from-2.ensures (omega (arith, c.if-index-room.false, c.from-room.ensures, p.room_is)) in
    omega (arith, g.low, p.count_is, p.small)

-- what the claim leaves
left : (c : goal.After-store) → Got c.pass.inside.seat.me c.load-word.new.seat.me c.fetch_add-index.result c.load-word.result
    × (c.store.new.seat.me ≡ (took c.pass.inside.seat.me.0 c.fetch_add-index.result (handle_at c.load-word.result), c.pass.inside.seat.me.1))
left c =
    let p = c.pass.invariant.1 in
    let h = handle_at c.load-word.result in
    let g = got _ _ _ _ _ _ _ _ _ _ _ _ _ _ p c.fetch_add-index.ensures.2 c.load-word.ensures.2 refl c.from.ensures c.from-2.ensures (omega (arith, c.if-index-room.false, c.from-room.ensures, p.room_is)) in
    let spot : c.pass.inside.count + h.slot + 1 ≡ state_at c.load-word.new.seat.me.0.claims.count h.slot = omega (arith, p.count_is, ap (λ (u : Seat). u.0.claims.count) g.drawn) in
    (g, c.store.ensures.2 h.slot spot ∙ (λ j. (marked h.slot (one_more (2 * h.generation) j) (g.drawn j).0, (g.drawn j).1)))

pub returns-clause-ok : goal.returns-clause-ok
returns-clause-ok c =
    let l = left c in
    let n = c.fetch_add-index.result in
    let h = handle_at c.load-word.result in
    let old = ap (λ p. p.knows) c.pass.view_is in (
      n,
      h,
      omega (arith, c.if-index-room.false, c.from-room.ensures, c.pass.invariant.1.room_is, ap (λ (u : ValueView). length u.claims.list) old),
      sym (ap (λ (u : ValueView). entry u.claims.list n) old) ∙ l.0.listed,
      (λ j. record { slot = (sym c.pass.invariant.1.fixed_is ∙ ap (λ (u : ValueView). u.fixed) old) j + h.slot; generation = h.generation }),
      ap (λ m. m.0) l.1 ∙ ap (λ u. took u n h) old,
    )

pub returns-clause-new : goal.returns-clause-new
returns-clause-new c = subst (λ (x : ValueView × ℕ). Lacks x.0 (x.1 + (handle_at c.load-word.result).slot)) (λ j. (ap (λ p. p.knows) c.pass.view_is j, c.pass.invariant.1.fixed_is j)) (left c).0.lacks

pub invariant_of-pass : goal.invariant_of-pass
invariant_of-pass c =
    let p = c.pass.invariant.1 in
    let d = c.fetch_add-index.ensures in
    let none = past_entry _ c.fetch_add-index.result (omega (arith, c.if-index-room.true, c.from-room.ensures, p.room_is)) in
    (ap (λ m. m.1) d.2.drawn ∙ c.pass.invariant.0, carried _ _ _ _ _ _ (carries_past _ _ _ _ _ c.pass.inside.seat.me.0 p c.fetch_add-index.result none) _ _ (ap (λ z. z.words) d.0) (ap (λ m. m.0) d.2.drawn))

pub invariant_of-pass-2 : goal.invariant_of-pass-2
invariant_of-pass-2 c =
    let l = left c in
    let t = c.store.ensures.0 ∙ (c.load-word.ensures.0 ∙ c.fetch_add-index.ensures.0) in
    let k = carries_took _ _ _ _ _ c.pass.inside.seat.me.0 c.pass.invariant.1 c.fetch_add-index.result (handle_at c.load-word.result) l.0.listed l.0.low l.0.once in
    (ap (λ m. m.1) l.1 ∙ c.pass.invariant.0, carried _ _ _ _ _ _ k _ _ (ap (λ z. z.words) t) (ap (λ m. m.0) l.1))

pub returns-clause-room : goal.returns-clause-room
returns-clause-room c =
    let r = returns-clause-ok c in
    ap (λ (u : ValueView). u.claims.over) r.5 ∙ within r.0 c.args.pass.now.knows.claims.over (length c.args.pass.now.knows.claims.list) r.2 c.requires.room

pub returns-clause-branch : goal.returns-clause-branch
returns-clause-branch c = ap (λ (u : ValueView). u.claims.branch) (returns-clause-ok c).5
