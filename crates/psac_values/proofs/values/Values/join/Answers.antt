use Rattle.psac_values.proofs.Terms.{◌≡◌, ◌<◌, ◌+◌, sym, ap, subst, ◌∙◌, arith, length, Option, IfSome, Member, MetView, OwnedView, StateView, ValueView, Meeting, joined, United}
use Rattle.psac_values.proofs.Acts.{joins, settles}
use Rattle.psac_values.proofs.Carrying.{carried, carries_joined, unites_views}
use Rattle.psac_values.proofs.values.Values.join.Goals as goal

pub join_seat-requires : goal.join_seat-requires
join_seat-requires c =
    let il = c.left.view_is in
    let ir = c.right.view_is in
    let p = c.left.invariant.1 in
    let tl = ap (λ p. p.table) il ∙ (c.requires.table.0 ∙ sym c.self.view_is) in
    let tr = ap (λ p. p.table) ir ∙ (c.requires.table.1 ∙ sym c.self.view_is) in
    let b = c.requires.sides in
    (tl, tr, c.right.invariant.0, omega (arith, ap (λ z. z.words) tl, p.words_is), joins _ _ _ _ c.left.inside.seat.me.0 c.right.inside.seat.me.0 b.0 p.live c.right.invariant.1.live (ap (λ p. p.knows.claims.branch) il ∙ b.1) (ap (λ p. p.knows.claims.branch) ir ∙ b.2))

pub load-requires : goal.load-requires
load-requires c =
    let j = c.join_seat.ensures in
    let p = c.left.invariant.1 in
    let tl = ap (λ p. p.table) c.left.view_is ∙ (c.requires.table.0 ∙ sym c.self.view_is) in
    (j.0 ∙ tl, omega (arith, ap (λ z. z.words) tl, p.words_is), settles _ _ _ _ _ c.join_seat.new.seat.me.0 c.join_seat.new.seat.me.1 (ap (λ m. m.0.claims.live) j.2 ∙ p.live))

pub returns-clause-joined : goal.returns-clause-joined
returns-clause-joined c =
    let j = c.join_seat.ensures in
    let l = c.load.ensures in
    let kl = ap (λ p. p.knows) c.left.view_is in
    let kr = ap (λ p. p.knows) c.right.view_is in
    ap (λ m. m.0) l.2.settled ∙ (ap (λ m. record m.0 { met = Rattle.std.proofs.Common.None }) j.2 ∙ (λ i. joined (kl i) (kr i)))

pub returns-clause-united : goal.returns-clause-united
returns-clause-united c =
    let kl = ap (λ p. p.knows) c.left.view_is in
    let kr = ap (λ p. p.knows) c.right.view_is in
    let m = subst (λ (o : Option MetView). IfSome o Meeting) (ap (λ m. m.0.met) c.join_seat.ensures.2) c.load.ensures.2.meeting in
    let u = unites_views c.left.inside.seat.me.0 c.right.inside.seat.me.0 m in
    subst (λ (x : ValueView × ValueView × ValueView). United x.0 x.1 x.2) (λ i. (kl i, kr i, (sym (returns-clause-joined c ∙ (λ k. joined (sym kl k) (sym kr k)))) i)) u

pub invariant_of-result : goal.invariant_of-result
invariant_of-result c =
    let j = c.join_seat.ensures in
    let l = c.load.ensures in
    let q = c.right.invariant.1 in
    let e = l.2.settled ∙ ap (λ m. (record m.0 { met = Rattle.std.proofs.Common.None }, m.1)) j.2 in
    let k = carries_joined _ _ _ _ _ c.left.inside.seat.me.0 c.left.invariant.1 c.right.inside.seat.me.0 q.held_is (λ t m. (q.out t m).0) (subst (λ m. (t : StateView) → Member t m.0.states → t.of.slot < m.0.claims.count) j.2 l.2.states) (subst (λ m. (z : OwnedView) → Member z m.0.mine → (length z.words ≡ 3) × (z.of.slot < m.0.fixed + m.0.claims.count)) j.2 l.2.low) in
    (ap (λ m. m.1) e ∙ c.left.invariant.0, carried _ _ _ _ _ _ k _ _ (ap (λ z. z.words) (l.0 ∙ j.0)) (ap (λ m. m.0) e))
