use Rattle.psac_readers.proofs.Terms.{List, ℕ, ◌≡◌, ◌<◌, ◌+◌, ◌%◌, suc, refl, sym, ap, subst, ◌∙◌, arith, length, Some, mod-lt, true, ◌++◌, ◌∷◌, one_more, sum_by, Step, place as place_of, Accounted, ReadersView, named, alive, mods_of, head_at, Each, Seat, Unlinked, revived, unlinked, freed, swept_one, chain_of, led_from, Fine, Carries, Placing, Member}
use Rattle.psac_slots.specs.Handles as handles
use Rattle.psac_readers.proofs.Freeing.{revives, unlinks, frees}
use Rattle.psac_readers.proofs.Walking.{named_low}
use Rattle.psac_readers.proofs.Handing.{revived_alive, unlinked_out, revived_fine, still_named, freed_all, room_after, carries_swept, led_low}
use Rattle.psac_readers.proofs.Taking.{stands}
use Rattle.psac_readers.proofs.readers.Readers.free_link.Goals as goal

-- the three steps, one after another
module _ (links mods head room words : ℕ) (v : ReadersView) (p : Carries links mods head room words v) (hs : List (ℕ × Unit {0})) (l before next : ℕ) (own : 0 < sum_by (named l) v.links) (pl : Placing v before l next) where
  module _ (one : Seat) (e : one ≡ (revived l v, hs)) where
    abbrev now : ReadersView
    now = one.0

    back : now ≡ revived l v
    back = ap (λ m. m.0) e

    small : pl.0 < now.mods
    small = subst (λ (u : ReadersView). pl.0 < u.mods) (sym back) pl.3

    has : Member pl.0 (mods_of now.walk)
    has = subst (λ (u : ReadersView). Member pl.0 (mods_of u.walk)) (sym back) pl.4

    chain : chain_of pl.0 now.walk ≡ Some (pl.1 ++ l ∷ pl.2)
    chain = subst (λ (u : ReadersView). chain_of pl.0 u.walk ≡ Some (pl.1 ++ l ∷ pl.2)) (sym back) pl.5

    place : before ≡ led_from now.claims.count now.mods (head_at now.claims.count pl.0) pl.1
    place = subst (λ (u : ReadersView). before ≡ led_from u.claims.count u.mods (head_at u.claims.count pl.0) pl.1) (sym back) pl.8

    unlinked_is : (s : Step (Unit {0})) (n : ℕ) (two : Seat) → Unlinked s one n two → s.word ≡ before → two ≡ (unlinked l (revived l v), hs)
    unlinked_is s n two b is = b.off l (b.named pl.0 l pl.1 pl.2 small has chain (is ∙ place)) ∙ ap (λ (m : Seat). (unlinked l m.0, m.1)) e

  freed_is : (two three : Seat) → two ≡ (unlinked l (revived l v), hs) → (three ≡ (freed l two.0, two.1)) × (0 < handles.slot_times l two.0.claims.held) → (three ≡ (swept_one l v, hs)) × (0 < handles.slot_times l v.claims.held)
  freed_is two three e f = (f.0 ∙ (ap (λ (m : Seat). (freed l m.0, m.1)) e ∙ ap (λ u. (u, hs)) (freed_all l v)), subst (λ (m : Seat). 0 < handles.slot_times l m.0.claims.held) e f.1)

-- what the three steps leave, of a pass that knew old
swept_is : (links mods head room words : ℕ) (v old : ReadersView) → Carries links mods head room words v → (hs : List (ℕ × Unit {0})) (l before next : ℕ) → v ≡ old → 0 < sum_by (named l) old.links → Placing old before l next
    → (one two three : Seat) (s : Step (Unit {0})) (n : ℕ) → one ≡ (revived l v, hs) → Unlinked s one n two → s.word ≡ before → (three ≡ (freed l two.0, two.1)) × (0 < handles.slot_times l two.0.claims.held)
    → (three ≡ (swept_one l v, hs)) × (0 < handles.slot_times l v.claims.held)
swept_is links mods head room words v old p hs l before next is has at one two three s n e u is_before f =
    let own = subst (λ (u : ReadersView). 0 < sum_by (named l) u.links) (sym is) has in
    let pl = subst (λ (u : ReadersView). Placing u before l next) (sym is) at in
    freed_is links mods head room words v p hs l before next own pl two three (unlinked_is links mods head room words v p hs l before next own pl one e s n two u is_before) f

pub store-requires : goal.store-requires
store-requires c =
    let iv = ap (λ p. p.knows) c.pass.view_is in
    let p = c.pass.invariant.1 in
    let v = c.pass.inside.seat.me.0 in
    let t = ap (λ p. p.table) c.pass.view_is ∙ (c.requires.table ∙ sym c.self.view_is) in
    let own = subst (λ (u : ReadersView). 0 < sum_by (named c.args.link) u.links) (sym iv) c.requires.own in
    (t, omega (arith, ap (λ z. z.words) t, p.words_is, named_low _ c.args.link v.links p.fine own), revives _ _ _ _ v c.pass.inside.seat.me.1 p.live c.args.link _ own (omega (arith, p.links_is, p.mods_is)))

pub swap-requires : goal.swap-requires
swap-requires c =
    let iv = ap (λ p. p.knows) c.pass.view_is in
    let p = c.pass.invariant.1 in
    let v = c.pass.inside.seat.me.0 in
    let l = c.args.link in
    let t = ap (λ p. p.table) c.pass.view_is ∙ (c.requires.table ∙ sym c.self.view_is) in
    let own = subst (λ (u : ReadersView). 0 < sum_by (named c.args.link) u.links) (sym iv) c.requires.own in
    let pl = subst (λ (u : ReadersView). Placing u c.args.before c.args.link c.args.next) (sym iv) c.requires.place in
    let one = c.store.new.seat.me in
    let e = c.store.ensures.2 l (omega (arith, p.links_is, p.mods_is)) in
    let f = ap (λ m. m.0) (sym e) in
    let small_ = small _ _ _ _ _ v p _ l c.args.before c.args.next own pl one e in
    let has_ = has _ _ _ _ _ v p _ l c.args.before c.args.next own pl one e in
    let chain_ = chain _ _ _ _ _ v p _ l c.args.before c.args.next own pl one e in
    let place_ = place _ _ _ _ _ v p _ l c.args.before c.args.next own pl one e in
    let alive_now = subst (λ (u : ReadersView). 0 < sum_by (alive l) u.links) f (omega (arith, revived_alive _ l v.links p.fine, own)) in
    let fine = subst (λ (u : ReadersView). Each (Fine u.claims.count) u.links) f (subst (λ k. Each (Fine k) (revived l v).links) (sym p.links_is) (revived_fine _ l v.links p.fine)) in
    (c.store.ensures.0 ∙ t, omega (arith, led_low _ _ _ _ _ v p pl.0 l pl.1 pl.2 pl.3 pl.6, pl.8, ap (λ z. z.words) t), unlinks _ _ _ _ one.0 one.1 (subst (λ (u : ReadersView). u.claims.live ≡ true) f p.live) pl.0 l c.args.next c.args.before pl.1 pl.2 small_ has_ chain_ pl.7 alive_now fine place_)

pub nonzero_rem-place : goal.nonzero_rem-place
nonzero_rem-place c =
    let iv = ap (λ p. p.knows) c.pass.view_is in
    omega (arith, named_low _ c.args.link c.pass.inside.seat.me.0.links c.pass.invariant.1.fine (subst (λ (u : ReadersView). 0 < sum_by (named c.args.link) u.links) (sym iv) c.requires.own), c.from-3.ensures)

pub store-requires-2 : goal.store-requires-2
store-requires-2 c =
    let iv = ap (λ p. p.knows) c.pass.view_is in
    let p = c.pass.invariant.1 in
    let v = c.pass.inside.seat.me.0 in
    let l = c.args.link in
    let t = ap (λ p. p.table) c.pass.view_is ∙ (c.requires.table ∙ sym c.self.view_is) in
    let own = subst (λ (u : ReadersView). 0 < sum_by (named c.args.link) u.links) (sym iv) c.requires.own in
    let pl = subst (λ (u : ReadersView). Placing u c.args.before c.args.link c.args.next) (sym iv) c.requires.place in
    let e = unlinked_is _ _ _ _ _ v p _ l c.args.before c.args.next own pl _ (c.store.ensures.2 l (omega (arith, p.links_is, p.mods_is))) _ _ _ c.swap.ensures.2 refl in
    let f = ap (λ m. m.0) (sym e) in
    let now = c.swap.new.seat.me.0 in
    let q = c.from-3.ensures in
    let m = mod-lt (c.from.result + c.from-2.result) {m = c.from-3.result} (omega (arith, named_low _ l v.links p.fine own, q)) in
    let here : (c.from.result + c.from-2.result) % c.from-3.result + 1 ≡ place_of now.claims.count (now.claims.head + length now.claims.list) = one_more _ ∙ (λ j. suc (((c.from.ensures ∙ (sym p.head_is ∙ ap (λ (u : ReadersView). u.claims.head) f)) j + (c.from-2.ensures ∙ (sym p.room_is ∙ ap (λ (u : ReadersView). length u.claims.list) f)) j) % (c.from-3.ensures ∙ (sym p.links_is ∙ ap (λ (u : ReadersView). u.claims.count) f)) j)) in (
      c.swap.ensures.0 ∙ (c.store.ensures.0 ∙ t),
      omega (arith, ap (λ z. z.words) t, p.words_is, m, q),
      frees _ _ _ _ now c.swap.new.seat.me.1 (subst (λ (u : ReadersView). u.claims.live ≡ true) f p.live) l _ _ (subst (λ (u : ReadersView). u.claims.counter ≡ Some 0) f (ap (λ (u : ReadersView). u.claims.counter) iv ∙ c.requires.begun))
          (subst (λ (u : ReadersView). 0 < sum_by (named l) u.links) f (omega (arith, still_named l v.links, own))) (subst (λ (u : ReadersView). sum_by (stands l) u.links ≡ 0) f (unlinked_out _ l v.links p.fine)) here (omega (arith, c.from-4.ensures)),
    )

-- what is left, and what the link had
swept : (c : goal.After-store-2) → (c.store-2.new.seat.me ≡ (swept_one c.args.link c.pass.inside.seat.me.0, c.pass.inside.seat.me.1)) × (0 < handles.slot_times c.args.link c.pass.inside.seat.me.0.claims.held)
swept c =
    let p = c.pass.invariant.1 in
    let l = c.args.link in
    swept_is _ _ _ _ _ c.pass.inside.seat.me.0 _ p _ l c.args.before c.args.next (ap (λ p. p.knows) c.pass.view_is) c.requires.own c.requires.place _ _ _ _ _ (c.store.ensures.2 l (omega (arith, p.links_is, p.mods_is))) c.swap.ensures.2 refl (c.store-2.ensures.2 l (omega (arith, c.from-4.ensures)))

-- the ring had room for it, and each link is free or held
room_is : (c : goal.After-store-2) → (length c.pass.inside.seat.me.0.claims.list < c.pass.inside.seat.me.0.claims.count) × Accounted (swept_one c.args.link c.pass.inside.seat.me.0).claims
room_is c = room_after c.args.link c.pass.inside.seat.me.0 (swept c).1 (subst (λ (u : ReadersView). Accounted u.claims) (sym (ap (λ p. p.knows) c.pass.view_is)) c.requires.whole)

pub overflow_add-pass : goal.overflow_add-pass
overflow_add-pass c = let p = c.pass.invariant.1 in omega (arith, (room_is c).0, p.room_is, p.links_is, p.small)

pub invariant_of-pass : goal.invariant_of-pass
invariant_of-pass c =
    let f = (swept c.before).0 in
    (ap (λ m. m.1) f ∙ c.pass.invariant.0, subst (λ (x : ℕ × ReadersView). Carries c.pass.inside.links c.pass.inside.mods c.pass.inside.head (c.pass.inside.room + 1) x.0 x.1) (λ j. (ap (λ z. z.words) (sym (c.store-2.ensures.0 ∙ (c.swap.ensures.0 ∙ c.store.ensures.0))) j, sym (ap (λ m. m.0) f) j)) (carries_swept _ _ _ _ _ c.args.link c.pass.inside.seat.me.0 c.pass.invariant.1 (room_is c.before).0))

pub returns-clause-freed : goal.returns-clause-freed
returns-clause-freed c = ap (λ m. m.0) (swept c.before).0 ∙ ap (λ p. swept_one c.args.link p.knows) c.pass.view_is

pub returns-clause-whole : goal.returns-clause-whole
returns-clause-whole c = subst (λ (u : ReadersView). Accounted u.claims) (sym (ap (λ m. m.0) (swept c.before).0)) (room_is c.before).1
