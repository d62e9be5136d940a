use Rattle.psac_marks.proofs.Terms.{ℕ, suc, ◌+◌, ◌*◌, ◌%◌, ◌∷◌, [], List, map, ◌<◌, ◌≡◌, length, sym, ap, subst, ◌∙◌, arith, mod-lt, refl, inl, Option, Some, one_more, handle_at, past_entry, within, Step, Member, entry, times, member_left, member_right, map_member, MarksView, parent_at, parent_word, state_at, out_word, places, Has, HasOwn, Seat, Drew, Loaded, Tells, Lacks, new_own, new_state, drew, hung, stated, Carries, slot_of, took}
use Rattle.psac_marks.proofs.Acts.{draws, loads, hangs, states}
use Rattle.psac_marks.proofs.Carrying.{carried, carries_past, carries_took, took_is, found_here, parent_has}
use Rattle.psac_marks.proofs.Parts.{drew_has}
use Rattle.psac_marks.proofs.marks.Marks.claim.Goals as goal

pub fetch_add-index-requires : goal.fetch_add-index-requires
fetch_add-index-requires c =
    let is = c.pass.view_is in
    let p = c.pass.invariant.1 in
    let t = ap (λ p. p.table) is ∙ (c.requires.table ∙ sym c.self.view_is) in
    (t, omega (arith, ap (λ z. z.words) t, p.words_is), draws _ _ _ c.pass.inside.seat.me.0 c.pass.inside.seat.me.1 p.live (ap (λ p. p.knows.claims.over) is ∙ c.requires.room))

pub load-word-requires : goal.load-word-requires
load-word-requires c =
    let d = c.fetch_add-index.ensures in
    let p = c.pass.invariant.1 in
    let t = ap (λ p. p.table) c.pass.view_is ∙ (c.requires.table ∙ sym c.self.view_is) in
    let r = c.if-index-room.false in
    let q = c.from-room.ensures in
    let k = c.from-2.ensures in
    let m = mod-lt (c.from.result + c.fetch_add-index.result) {m = c.from-2.result} (omega (arith, r, q, k, p.room_fits)) in
    (d.0 ∙ t, omega (arith, ap (λ z. z.words) t, p.words_is, m, k), loads _ _ _ c.fetch_add-index.new.seat.me.0 c.fetch_add-index.new.seat.me.1 (ap (λ m. m.0.claims.live) d.2.drawn ∙ p.live) _)

-- what a claim has after the load: the word is the list's entry at the index, a node that the pass lacked
record Got (me two : Seat) (n word : ℕ) : Type 0 where
  drawn : two ≡ (drew me.0 n, me.1)
  listed : entry me.0.claims.list n ≡ handle_at word ∷ []
  member : Member (handle_at word) (entry me.0.claims.list n)
  low : (handle_at word).slot < me.0.claims.count
  lacks : Lacks me.0 (handle_at word).slot
  unmarked : times (handle_at word).slot me.0.marked ≡ 0
  kept : times (handle_at word).slot me.0.dropped ≡ 0
  taken : (par : Option ℕ) → stated (handle_at word).slot (out_word (handle_at word)) (hung (handle_at word).slot par (drew me.0 n)) ≡ took me.0 n (handle_at word) par

got : (nodes head room words n word from size : ℕ) (s t : Step (Unit {0})) (me one two : Seat) (p : Carries nodes head room words me.0) → Drew s me n one → Loaded t one word two
    → t.word ≡ (from + n) % size + 1 → from ≡ head → size ≡ nodes → n < length me.0.claims.list → Got me two n word
got nodes head room words n word from size s t me one two p d l is a b small =
    let h = handle_at word in
    let tells = subst (λ (k : MarksView). Tells k t.word word) (ap (λ m. m.0) d.drawn) l.tells in
    let f = found_here nodes head room words me.0 p n word t.word small (is ∙ (one_more _ ∙ (λ j. suc ((a j + n) % b j)))) tells in
    let mem : Member h (entry me.0.claims.list n) = subst (Member h) (sym f) (inl refl) in
    record {
      drawn = l.same ∙ d.drawn;
      listed = f;
      member = mem;
      low = d.low h mem;
      lacks = d.new h mem;
      unmarked = d.unmarked h mem;
      kept = d.kept h mem;
      taken = λ par. took_is me.0 n h par f (d.new h mem) tells.held_is tells.once;
    }

pub store-requires : goal.store-requires
store-requires c =
    let p = c.pass.invariant.1 in
    let v = c.pass.inside.seat.me.0 in
    let n = c.fetch_add-index.result in
    let h = handle_at c.load-word.result in
    let g = got _ _ _ _ n _ _ _ _ _ _ _ _ p c.fetch_add-index.ensures.2 c.load-word.ensures.2 refl c.from.ensures c.from-2.ensures (omega (arith, c.if-index-room.false, c.from-room.ensures, p.room_is)) in
    let t = ap (λ p. p.table) c.pass.view_is ∙ (c.requires.table ∙ sym c.self.view_is) in
    let spot : c.pass.inside.nodes + 3 * h.slot + 1 + 1 ≡ parent_at c.load-word.new.seat.me.0.claims.count h.slot = omega (arith, p.nodes_is, ap (λ (u : Seat). u.0.claims.count) g.drawn) in
    let mine : HasOwn (drew v n).own h.slot = (new_own h, member_left (new_own h) (map new_own (entry v.claims.list n)) v.own (map_member new_own h (entry v.claims.list n) g.member), refl) in
    let may : (x : ℕ) → slot_of c.args.parent ≡ Some x → Has (places (drew v n)) x × (times h.slot (drew v n).marked ≡ 0) =
    λ x s. (drew_has v n x (subst (λ (u : MarksView). Has (places u) x) (sym (ap (λ p. p.knows) c.pass.view_is)) (parent_has c.args.pass.now.knows c.args.parent c.requires.parent x s)), g.unmarked) in
    let here = subst (λ (u : Seat). HasOwn u.0.own h.slot × ((x : ℕ) → slot_of c.args.parent ≡ Some x → Has (places u.0) x × (times h.slot u.0.marked ≡ 0))) (sym g.drawn) (mine, may) in
    (c.load-word.ensures.0 ∙ (c.fetch_add-index.ensures.0 ∙ t), omega (arith, ap (λ z. z.words) t, p.words_is, g.low, p.nodes_is), hangs _ _ _ c.load-word.new.seat.me.0 c.load-word.new.seat.me.1 (ap (λ (u : Seat). u.0.claims.live) g.drawn ∙ p.live) h.slot (slot_of c.args.parent) _ _ here.0 here.1 spot c.word_above.ensures)

-- what the store of the parent leaves
hung_is : (v : MarksView) (hs : List (ℕ × Unit {0})) (n nodes word parent : ℕ) (par : Option ℕ) (two three : Seat) → v.claims.count ≡ nodes → two ≡ (drew v n, hs)
    → ((x : ℕ) (q : Option ℕ) → nodes + 3 * (handle_at word).slot + 1 + 1 ≡ parent_at two.0.claims.count x → parent ≡ parent_word q → three ≡ (hung x q two.0, two.1)) → parent ≡ parent_word par → three ≡ (hung (handle_at word).slot par (drew v n), hs)
hung_is v hs n nodes word parent par two three is e stores above =
    stores (handle_at word).slot par (omega (arith, is, ap (λ (u : Seat). u.0.claims.count) e)) above ∙ ap (λ (u : Seat). (hung (handle_at word).slot par u.0, u.1)) e

pub store-requires-2 : goal.store-requires-2
store-requires-2 c =
    let p = c.pass.invariant.1 in
    let v = c.pass.inside.seat.me.0 in
    let n = c.fetch_add-index.result in
    let h = handle_at c.load-word.result in
    let g = got _ _ _ _ n _ _ _ _ _ _ _ _ p c.fetch_add-index.ensures.2 c.load-word.ensures.2 refl c.from.ensures c.from-2.ensures (omega (arith, c.if-index-room.false, c.from-room.ensures, p.room_is)) in
    let t = ap (λ p. p.table) c.pass.view_is ∙ (c.requires.table ∙ sym c.self.view_is) in
    let e = hung_is v _ n _ c.load-word.result _ (slot_of c.args.parent) _ _ p.nodes_is g.drawn c.store.ensures.2 c.word_above.ensures in
    let spot : c.pass.inside.nodes + 3 * h.slot + 1 + 2 ≡ state_at c.store.new.seat.me.0.claims.count h.slot = omega (arith, p.nodes_is, ap (λ (u : Seat). u.0.claims.count) e) in
    let mine = subst (λ (u : Seat). Member (new_state h) u.0.states) (sym e) (member_right (new_state h) v.states (map new_state (entry v.claims.list n)) (map_member new_state h (entry v.claims.list n) g.member)) in
    (c.store.ensures.0 ∙ (c.load-word.ensures.0 ∙ (c.fetch_add-index.ensures.0 ∙ t)), omega (arith, ap (λ z. z.words) t, p.words_is, g.low, p.nodes_is), states _ _ _ c.store.new.seat.me.0 c.store.new.seat.me.1 (ap (λ (u : Seat). u.0.claims.live) e ∙ p.live) (new_state h) _ _ mine spot)

-- what the claim leaves
left : (c : goal.After-store-2) → Got c.pass.inside.seat.me c.load-word.new.seat.me c.fetch_add-index.result c.load-word.result
    × (c.store-2.new.seat.me ≡ (took c.pass.inside.seat.me.0 c.fetch_add-index.result (handle_at c.load-word.result) (slot_of c.args.parent), c.pass.inside.seat.me.1))
left c =
    let p = c.pass.invariant.1 in
    let v = c.pass.inside.seat.me.0 in
    let n = c.fetch_add-index.result in
    let h = handle_at c.load-word.result in
    let g = got _ _ _ _ n _ _ _ _ _ _ _ _ p c.fetch_add-index.ensures.2 c.load-word.ensures.2 refl c.from.ensures c.from-2.ensures (omega (arith, c.if-index-room.false, c.from-room.ensures, p.room_is)) in
    let e = hung_is v _ n _ c.load-word.result _ (slot_of c.args.parent) _ _ p.nodes_is g.drawn c.store.ensures.2 c.word_above.ensures in
    let spot : c.pass.inside.nodes + 3 * h.slot + 1 + 2 ≡ state_at c.store.new.seat.me.0.claims.count h.slot = omega (arith, p.nodes_is, ap (λ (u : Seat). u.0.claims.count) e) in
    (g, c.store-2.ensures.2 h.slot spot ∙ ((λ j. (stated h.slot (one_more (2 * h.generation) j) (e j).0, (e j).1)) ∙ ap (λ u. (u, c.pass.inside.seat.me.1)) (g.taken (slot_of c.args.parent))))

pub invariant_of-pass : goal.invariant_of-pass
invariant_of-pass c =
    let p = c.pass.invariant.1 in
    let v = c.pass.inside.seat.me.0 in
    let d = c.fetch_add-index.ensures in
    let none = past_entry v.claims.list c.fetch_add-index.result (omega (arith, c.if-index-room.true, c.from-room.ensures, p.room_is)) in
    (ap (λ m. m.1) d.2.drawn ∙ c.pass.invariant.0, carried _ _ _ _ _ (carries_past _ _ _ _ v p c.fetch_add-index.result none) _ _ (ap (λ z. z.words) d.0) (ap (λ m. m.0) d.2.drawn))

pub invariant_of-pass-2 : goal.invariant_of-pass-2
invariant_of-pass-2 c =
    let l = left c in
    let t = c.store-2.ensures.0 ∙ (c.store.ensures.0 ∙ (c.load-word.ensures.0 ∙ c.fetch_add-index.ensures.0)) in
    let k = carries_took _ _ _ _ c.pass.inside.seat.me.0 c.pass.invariant.1 c.fetch_add-index.result (handle_at c.load-word.result) (slot_of c.args.parent) l.0.listed l.0.low in
    (ap (λ m. m.1) l.1 ∙ c.pass.invariant.0, carried _ _ _ _ _ k _ _ (ap (λ z. z.words) t) (ap (λ m. m.0) l.1))

pub returns-clause-ok : goal.returns-clause-ok
returns-clause-ok c =
    let l = left c in
    let n = c.fetch_add-index.result in
    let old = ap (λ p. p.knows) c.pass.view_is in
    record {
      index = n;
      low = omega (arith, c.if-index-room.false, c.from-room.ensures, c.pass.invariant.1.room_is, ap (λ (u : MarksView). length u.claims.list) old);
      entry = sym (ap (λ (u : MarksView). entry u.claims.list n) old) ∙ l.0.listed;
      becomes = ap (λ m. m.0) l.1 ∙ ap (λ (u : MarksView). took u n (handle_at c.load-word.result) (slot_of c.args.parent)) old;
    }

pub returns-clause-new : goal.returns-clause-new
returns-clause-new c = subst (λ (u : MarksView). Lacks u (handle_at c.load-word.result).slot) (ap (λ p. p.knows) c.pass.view_is) (left c).0.lacks

pub returns-clause-unmarked : goal.returns-clause-unmarked
returns-clause-unmarked c = let l = left c in ap (λ m. times (handle_at c.load-word.result).slot m.0.marked) l.1 ∙ l.0.unmarked

pub returns-clause-kept : goal.returns-clause-kept
returns-clause-kept c = let l = left c in ap (λ m. times (handle_at c.load-word.result).slot m.0.dropped) l.1 ∙ l.0.kept

pub returns-clause-room : goal.returns-clause-room
returns-clause-room c =
    let o = returns-clause-ok c in
    ap (λ (u : MarksView). u.claims.over) o.becomes ∙ within o.index c.args.pass.now.knows.claims.over (length c.args.pass.now.knows.claims.list) o.low c.requires.room

pub returns-clause-branch : goal.returns-clause-branch
returns-clause-branch c = ap (λ (u : MarksView). u.claims.branch) (returns-clause-ok c).becomes
