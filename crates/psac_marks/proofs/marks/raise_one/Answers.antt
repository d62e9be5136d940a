use Rattle.psac_marks.proofs.Terms.{ℕ, ◌+◌, ◌*◌, ◌-◌, ◌≡◌, ◌<◌, inl, inr, sym, ap, subst, ◌∙◌, refl, arith, Seat, Step, MarksView, mark_at, parent_at, Place, places, Has, Tells, Raised, raised, MayRaise, IsBusy, IsKept}
use Rattle.psac_marks.proofs.Acts.{raises, loads}
use Rattle.psac_marks.proofs.Climbing.{found_more, no_parent, the_parent}
use Rattle.psac_marks.proofs.marks.raise_one.Goals as goal

pub swap-found-requires : goal.swap-found-requires
swap-found-requires c =
    let v = c.args.seat.now.me.0 in
    let has = c.requires.has in
    let e0 = has.0 in
    let s0 = has.2 in
    let w = ap (λ z. z.words) c.requires.table in
    let spot : c.args.nodes + 3 * c.args.slot + 1 ≡ mark_at v.claims.count e0.node.slot = omega (arith, c.requires.nodes, s0) in
    (c.requires.table, omega (arith, w, c.requires.room, c.requires.low), raises _ _ _ v c.args.seat.now.me.1 c.requires.live e0 _ has.1 (subst (MayRaise v) (sym s0) c.requires.may) spot)

pub returns-then-found-ne0-clause-seat : goal.returns-then-found-ne0-clause-seat
returns-then-found-ne0-clause-seat c =
    let v = c.args.seat.now.me.0 in
    let has = c.requires.has in
    let e0 = has.0 in
    let spot : c.args.nodes + 3 * c.args.slot + 1 ≡ mark_at v.claims.count e0.node.slot = omega (arith, c.requires.nodes, has.2) in
    (c.swap-found.ensures.0, ap (λ m. m.1) (c.swap-found.ensures.2.becomes e0 has.1 spot))

pub returns-then-found-ne0-clause-raised : goal.returns-then-found-ne0-clause-raised
returns-then-found-ne0-clause-raised c = λ e m s.
    let v = c.args.seat.now.me.0 in
    let at : c.args.nodes + 3 * c.args.slot + 1 ≡ mark_at v.claims.count e.node.slot = omega (arith, c.requires.nodes, s) in
    inl (refl, ap (λ m. m.0) (c.swap-found.ensures.2.becomes e m at) ∙ found_more e.node.slot e.parent c.swap-found.result v c.if-found-ne0.true)

-- where the swap found 0, the node was raised first
after_found : (s : Step (Unit {0})) (me two : Seat) (n nodes slot : ℕ) → Raised s me n two → (has : Has (places me.0) slot) → nodes ≡ me.0.claims.count → s.word ≡ nodes + 3 * slot + 1 → n ≡ 0 → two ≡ (raised has.0.node.slot has.0.parent 0 me.0, me.1)
after_found s me two n nodes slot r has is at z = r.becomes has.0 has.1 (omega (arith, at, is, has.2)) ∙ ap (λ k. (raised has.0.node.slot has.0.parent k me.0, me.1)) z

pub load-word-requires : goal.load-word-requires
load-word-requires c =
    let w = ap (λ z. z.words) c.requires.table in
    let after = after_found _ c.args.seat.now.me _ _ c.args.nodes c.args.slot c.swap-found.ensures.2 c.requires.has c.requires.nodes refl c.if-found-ne0.false in
    (c.swap-found.ensures.0 ∙ c.requires.table, omega (arith, w, c.requires.room, c.requires.low), loads _ _ _ c.swap-found.new.seat.me.0 c.swap-found.new.seat.me.1 (ap (λ (u : MarksView). u.claims.live) (ap (λ m. m.0) after) ∙ c.requires.live) _)

pub returns-then-word-eq0-clause-seat : goal.returns-then-word-eq0-clause-seat
returns-then-word-eq0-clause-seat c =
    let after = after_found _ c.args.seat.now.me _ _ c.args.nodes c.args.slot c.swap-found.ensures.2 c.requires.has c.requires.nodes refl c.if-found-ne0.false in
    (c.load-word.ensures.0 ∙ c.swap-found.ensures.0, ap (λ m. m.1) (c.load-word.ensures.2.same ∙ after))

-- what was found tells of the node
unbusy : (v : MarksView) (e : Place) (i n : ℕ) → ((x : ℕ) → i ≡ mark_at v.claims.count x → IsBusy v x → 0 < n) → i ≡ mark_at v.claims.count e.node.slot → n ≡ 0 → IsBusy v e.node.slot → ⊥
unbusy v e i n f at z b = let p = f e.node.slot at b in omega (arith, p, z)

pub returns-then-word-eq0-clause-raised : goal.returns-then-word-eq0-clause-raised
returns-then-word-eq0-clause-raised c = λ e m s.
    let v = c.args.seat.now.me.0 in
    let n = c.requires.nodes in
    let zero_is = c.if-found-ne0.false in
    let after = after_found _ c.args.seat.now.me _ _ c.args.nodes c.args.slot c.swap-found.ensures.2 c.requires.has c.requires.nodes refl c.if-found-ne0.false in
    let tells = subst (λ (u : MarksView). Tells u (c.args.nodes + 3 * c.args.slot + 1 + 1) c.load-word.result) (ap (λ m. m.0) after) c.load-word.ensures.2.tells in
    let at : c.args.nodes + 3 * c.args.slot + 1 ≡ mark_at v.claims.count e.node.slot = omega (arith, n, s) in
    let up : c.args.nodes + 3 * c.args.slot + 1 + 1 ≡ parent_at v.claims.count e.node.slot = omega (arith, n, s) in
    let here = ap (λ m. m.0) (c.swap-found.ensures.2.becomes e m at) ∙ ap (λ k. raised e.node.slot e.parent k v) zero_is in
    let parent = tells.parent e m up in
    inr (no_parent e.parent (sym parent ∙ c.if-word-eq0.true), unbusy v e _ _ c.swap-found.ensures.2.found at zero_is, ap (λ m. m.0) c.load-word.ensures.2.same ∙ here)

pub overflow_cast-result : goal.overflow_cast-result
overflow_cast-result c =
    let v = c.args.seat.now.me.0 in
    let n = c.requires.nodes in
    let has = c.requires.has in
    let e0 = has.0 in
    let s0 = has.2 in
    let after = after_found _ c.args.seat.now.me _ _ c.args.nodes c.args.slot c.swap-found.ensures.2 c.requires.has c.requires.nodes refl c.if-found-ne0.false in
    let tells = subst (λ (u : MarksView). Tells u (c.args.nodes + 3 * c.args.slot + 1 + 1) c.load-word.result) (ap (λ m. m.0) after) c.load-word.ensures.2.tells in
    let up : c.args.nodes + 3 * c.args.slot + 1 + 1 ≡ parent_at v.claims.count e0.node.slot = omega (arith, n, s0) in
    let parent = the_parent e0.parent c.load-word.result (tells.parent e0 has.1 up) c.if-word-eq0.false in
    let below = tells.above e0 (c.load-word.result - 1) has.1 (subst (IsKept v) (sym s0) c.requires.kept) (sym parent) in
    omega (arith, below, n, c.ranges.nodes.fits)

pub returns-clause-seat : goal.returns-clause-seat
returns-clause-seat c =
    let after = after_found _ c.args.seat.now.me _ _ c.args.nodes c.args.slot c.swap-found.ensures.2 c.requires.has c.requires.nodes refl c.if-found-ne0.false in
    (c.load-word.ensures.0 ∙ c.swap-found.ensures.0, ap (λ m. m.1) (c.load-word.ensures.2.same ∙ after))

pub returns-clause-raised : goal.returns-clause-raised
returns-clause-raised c = λ e m s.
    let v = c.args.seat.now.me.0 in
    let n = c.requires.nodes in
    let zero_is = c.if-found-ne0.false in
    let after = after_found _ c.args.seat.now.me _ _ c.args.nodes c.args.slot c.swap-found.ensures.2 c.requires.has c.requires.nodes refl c.if-found-ne0.false in
    let tells = subst (λ (u : MarksView). Tells u (c.args.nodes + 3 * c.args.slot + 1 + 1) c.load-word.result) (ap (λ m. m.0) after) c.load-word.ensures.2.tells in
    let at : c.args.nodes + 3 * c.args.slot + 1 ≡ mark_at v.claims.count e.node.slot = omega (arith, n, s) in
    let up : c.args.nodes + 3 * c.args.slot + 1 + 1 ≡ parent_at v.claims.count e.node.slot = omega (arith, n, s) in
    let here = ap (λ m. m.0) (c.swap-found.ensures.2.becomes e m at) ∙ ap (λ k. raised e.node.slot e.parent k v) zero_is in
    inr (the_parent e.parent c.load-word.result (tells.parent e m up) c.if-word-eq0.false, unbusy v e _ _ c.swap-found.ensures.2.found at zero_is, ap (λ m. m.0) c.load-word.ensures.2.same ∙ here)
