use Rattle.psac_marks.proofs.Terms.{◌≡◌, suc, ◌+◌, ◌*◌, ◌%◌, length, refl, sym, ap, subst, ◌∙◌, arith, mod-lt, None, Seat, none_some, twice, one_more, Handle, Member, word_of, later, place, Accounted, MarksView, free_word, HasOwn, hung, stated, gave, released, Owns, Childless}
use Rattle.psac_marks.proofs.Keeps.{own_alone}
use Rattle.psac_marks.proofs.Families.{bare_below}
use Rattle.psac_marks.proofs.Acts.{clears, hangs, states}
use Rattle.psac_marks.proofs.Giving.{gives, MayGo}
use Rattle.psac_marks.proofs.Carrying.{carried, own_low}
use Rattle.psac_marks.proofs.Going.{leaving, bare, state_of, may_go, released_is, has_room, released_whole, carries_released}
use Rattle.psac_marks.proofs.marks.Marks.put_back.Goals as goal

pub store-requires : goal.store-requires
store-requires c =
    let is = ap (λ p. p.knows) c.pass.view_is in
    let p = c.pass.invariant.1 in
    let v = c.pass.inside.seat.me.0 in
    let x = c.args.node.slot in
    let t = ap (λ p. p.table) c.pass.view_is ∙ (c.requires.table ∙ sym c.self.view_is) in
    let n = p.nodes_is in
    let own = own_low _ _ _ _ v p c.args.node _ is c.requires.own in
    let free = subst (λ k. Childless k x) (sym is) c.requires.children in (
      t,
      omega (arith, ap (λ z. z.words) t, p.words_is, own.1),
      clears _ _ _ v c.pass.inside.seat.me.1 p.live x _ (omega (arith, own.1, n))
          (λ s h at. (own_alone _ s.words s.views h _ v at x own.0, bare_below _ s.words s.views h _ v at p.live x own.0 (bare v x free))) (omega (arith, n)),
    )

pub store-requires-2 : goal.store-requires-2
store-requires-2 c =
    let is = ap (λ p. p.knows) c.pass.view_is in
    let p = c.pass.invariant.1 in
    let x = c.args.node.slot in
    let t = ap (λ p. p.table) c.pass.view_is ∙ (c.requires.table ∙ sym c.self.view_is) in
    let n = p.nodes_is in
    let own = own_low _ _ _ _ c.pass.inside.seat.me.0 p c.args.node _ is c.requires.own in
    let s1 = c.store.ensures in
    let v1 = ap (λ m. m.0) (s1.2 x (omega (arith, n))) in
    let n1 = ap (λ (u : MarksView). u.claims.count) v1 in (
      s1.0 ∙ t,
      omega (arith, ap (λ z. z.words) t, p.words_is, own.1),
      hangs _ _ _ c.store.new.seat.me.0 c.store.new.seat.me.1 (ap (λ (u : MarksView). u.claims.live) v1 ∙ p.live) x None _ _ (subst (λ (u : MarksView). HasOwn u.own x) (sym v1) own.0) (λ q e. absurd (none_some q e)) (omega (arith, n, n1)) refl,
    )

pub store-requires-3 : goal.store-requires-3
store-requires-3 c =
    let is = ap (λ p. p.knows) c.pass.view_is in
    let p = c.pass.invariant.1 in
    let g = c.args.node in
    let x = c.args.node.slot in
    let t = ap (λ p. p.table) c.pass.view_is ∙ (c.requires.table ∙ sym c.self.view_is) in
    let n = p.nodes_is in
    let st = state_of _ _ _ _ c.pass.inside.seat.me.0 p g (subst (λ (u : MarksView). Member g u.claims.held) (sym is) c.requires.out) in
    let slot = ap (λ (h : Handle). h.slot) st.2 in
    let s1 = c.store.ensures in
    let v1 = ap (λ m. m.0) (s1.2 x (omega (arith, n))) in
    let s2 = c.store-2.ensures in
    let v2 = ap (λ m. m.0) (s2.2 x None (omega (arith, n, ap (λ (u : MarksView). u.claims.count) v1)) refl) ∙ ap (hung x None) v1 in
    let n2 = ap (λ (u : MarksView). u.claims.count) v2 in (
      s2.0 ∙ (s1.0 ∙ t),
      omega (arith, ap (λ z. z.words) t, p.words_is, (p.out st.0 st.1).1, slot),
      states _ _ _ c.store-2.new.seat.me.0 c.store-2.new.seat.me.1 (ap (λ (u : MarksView). u.claims.live) v2 ∙ p.live) st.0 _ _ (subst (λ (u : MarksView). Member st.0 u.states) (sym v2) st.1) (omega (arith, n, n2, slot)),
    )

pub store-requires-4 : goal.store-requires-4
store-requires-4 c =
    let is = ap (λ p. p.knows) c.pass.view_is in
    let p = c.pass.invariant.1 in
    let v = c.pass.inside.seat.me.0 in
    let g = c.args.node in
    let x = c.args.node.slot in
    let t = ap (λ p. p.table) c.pass.view_is ∙ (c.requires.table ∙ sym c.self.view_is) in
    let n = p.nodes_is in
    let has = subst (λ (u : MarksView). Member g u.claims.held) (sym is) c.requires.out in
    let own = subst (λ k. Owns k g) (sym is) c.requires.own in
    let fit = subst (λ (u : MarksView). Accounted u.claims) (sym is) c.requires.whole in
    let s1 = c.store.ensures in
    let v1 = ap (λ m. m.0) (s1.2 x (omega (arith, n))) in
    let s2 = c.store-2.ensures in
    let v2 = ap (λ m. m.0) (s2.2 x None (omega (arith, n, ap (λ (u : MarksView). u.claims.count) v1)) refl) ∙ ap (hung x None) v1 in
    let n2 = ap (λ (u : MarksView). u.claims.count) v2 in
    let ga = c.from-generation.ensures in
    let s3 = c.store-3.ensures in
    let word : 2 * (c.from-generation.result + 1) ≡ free_word (later g) = twice _ _ (omega (arith, ga)) in
    let v3 : c.store-3.new.seat.me.0 ≡ leaving g v = ap (λ m. m.0) (s3.2 x (omega (arith, n, n2))) ∙ (λ j. stated x (word j) (v2 j)) in
    let go = subst (λ u. MayGo u g) (sym v3) (may_go _ _ _ _ v p g has own (subst (λ k. Childless k x) (sym is) c.requires.children)) in
    let q3 = c.from-3.ensures in
    let m = mod-lt (c.from.result + c.from-2.result) {m = c.from-3.result} (omega (arith, q3, has_room _ _ _ _ v p g has fit)) in
    let here : (c.from.result + c.from-2.result) % c.from-3.result + 1 ≡ place c.store-3.new.seat.me.0.claims.count (c.store-3.new.seat.me.0.claims.head + length c.store-3.new.seat.me.0.claims.list) =
    one_more _ ∙ (λ j. suc (((c.from.ensures ∙ (sym p.head_is ∙ sym (ap (λ (u : MarksView). u.claims.head) v3))) j + (c.from-2.ensures ∙ (sym p.room_is ∙ sym (ap (λ (u : MarksView). length u.claims.list) v3))) j) % (c.from-3.ensures ∙ (sym p.nodes_is ∙ sym (ap (λ (u : MarksView). u.claims.count) v3))) j)) in
    let stored : (c.from-generation.result + 1) * 4294967296 + c.from-4.result ≡ word_of (later g) = omega (arith, ga, c.from-4.ensures) in
    (s3.0 ∙ (s2.0 ∙ (s1.0 ∙ t)), omega (arith, ap (λ z. z.words) t, p.words_is, m, q3), gives _ _ _ _ _ c.store-3.new.seat.me.0 c.store-3.new.seat.me.1 g (ap (λ (u : MarksView). u.claims.counter) (v3 ∙ ap (leaving g) is) ∙ c.requires.begun) (subst (λ (u : MarksView). Member g u.claims.held) (sym v3) has) c.requires.next go here stored)

-- what the four stores leave
left : (c : goal.After-pass-1) → c.store-4.new.seat.me ≡ (released c.args.node c.pass.inside.seat.me.0, c.pass.inside.seat.me.1)
left c =
    let hs = c.pass.inside.seat.me.1 in
    let v = c.pass.inside.seat.me.0 in
    let g = c.args.node in
    let x = c.args.node.slot in
    let n = c.pass.invariant.1.nodes_is in
    let has = subst (λ (u : MarksView). Member g u.claims.held) (sym (ap (λ p. p.knows) c.pass.view_is)) c.requires.out in
    let e1 = c.store.ensures.2 x (omega (arith, n)) in
    let e2 = c.store-2.ensures.2 x None (omega (arith, n, ap (λ m. m.0.claims.count) e1)) refl ∙ ap (λ m. (hung x None m.0, m.1)) e1 in
    let ga = c.from-generation.ensures in
    let word : 2 * (c.from-generation.result + 1) ≡ free_word (later g) = twice _ _ (omega (arith, ga)) in
    let e3 : c.store-3.new.seat.me ≡ (leaving g v, hs) = c.store-3.ensures.2 x (omega (arith, n, ap (λ m. m.0.claims.count) e2)) ∙ (λ j. (stated x (word j) (e2 j).0, (e2 j).1)) in
    let stored : (c.from-generation.result + 1) * 4294967296 + c.from-4.result ≡ word_of (later g) = omega (arith, ga, c.from-4.ensures) in
    c.store-4.ensures.2 g (subst (λ (m : Seat). Member g m.0.claims.held) (sym e3) has) c.requires.next stored ∙ (ap (λ (m : Seat). (gave g m.0, m.1)) e3 ∙ ap (λ u. (u, hs)) (released_is g v))

pub returns-clause-gave : goal.returns-clause-gave
returns-clause-gave c = ap (λ m. m.0) (left c) ∙ ap (λ p. released c.args.node p.knows) c.pass.view_is

pub returns-clause-whole : goal.returns-clause-whole
returns-clause-whole c =
    let is = ap (λ p. p.knows) c.pass.view_is in
    let g = c.args.node in
    let has = subst (λ (u : MarksView). Member g u.claims.held) (sym is) c.requires.out in
    let fit = subst (λ (u : MarksView). Accounted u.claims) (sym is) c.requires.whole in
    subst (λ (u : MarksView). Accounted u.claims) (sym (ap (λ m. m.0) (left c))) (released_whole g c.pass.inside.seat.me.0 has fit)

pub invariant_of-pass : goal.invariant_of-pass
invariant_of-pass c =
    let is = ap (λ p. p.knows) c.pass.view_is in
    let g = c.args.node in
    let has = subst (λ (u : MarksView). Member g u.claims.held) (sym is) c.requires.out in
    let fit = subst (λ (u : MarksView). Accounted u.claims) (sym is) c.requires.whole in
    let t = c.store-4.ensures.0 ∙ (c.store-3.ensures.0 ∙ (c.store-2.ensures.0 ∙ c.store.ensures.0)) in
    let k = carries_released _ _ _ _ c.pass.inside.seat.me.0 c.pass.invariant.1 g has fit in
    (ap (λ m. m.1) (left c) ∙ c.pass.invariant.0, carried _ _ _ _ _ k _ _ (ap (λ z. z.words) t) (ap (λ m. m.0) (left c)))
