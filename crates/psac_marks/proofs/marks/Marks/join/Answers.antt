use Rattle.psac_marks.proofs.Terms.{◌≡◌, ◌<◌, ℕ, sym, ap, subst, ◌∙◌, arith, Option, None, IfSome, set_else, Member, times, SharedView, MetView, MarksView, places, HasOwn, Meeting, joined, met, IsClosed, United}
use Rattle.psac_marks.proofs.Acts.{settles}
use Rattle.psac_marks.proofs.Uniting.{joins_at, unites_views}
use Rattle.psac_marks.proofs.Handed.{carries_joined}
use Rattle.psac_marks.proofs.Carrying.{carried}
use Rattle.psac_marks.proofs.marks.Marks.join.Goals as goal

pub join_seat-requires : goal.join_seat-requires
join_seat-requires c =
    let il = c.left.view_is in
    let ir = c.right.view_is in
    let p = c.left.invariant.1 in
    let q = c.right.invariant.1 in
    let tl = ap (λ p. p.table) il ∙ (c.requires.table.0 ∙ sym c.self.view_is) in
    let b = c.requires.sides in (
      tl,
      (ap (λ p. p.table) ir ∙ (c.requires.table.1 ∙ sym c.self.view_is)),
      c.right.invariant.0,
      omega (arith, ap (λ z. z.words) tl, p.words_is),
      λ s h at two there. joins_at _ s.words s.views h _ _ c.left.inside.seat.me.0 c.right.inside.seat.me.0 b.0 at
          (sym (set_else s.views _ _ (met c.left.inside.seat.me.0 c.right.inside.seat.me.0) two) ∙ there) two p.live q.live (ap (λ p. p.knows.claims.branch) il ∙ b.1) (ap (λ p. p.knows.claims.branch) ir ∙ b.2) p.climb q.climb,
    )

pub load-requires : goal.load-requires
load-requires c =
    let j = c.join_seat.ensures in
    let p = c.left.invariant.1 in
    let tl = ap (λ p. p.table) c.left.view_is ∙ (c.requires.table.0 ∙ sym c.self.view_is) in
    (j.0 ∙ tl, omega (arith, ap (λ z. z.words) tl, p.words_is), settles _ _ _ c.join_seat.new.seat.me.0 c.join_seat.new.seat.me.1 (ap (λ m. m.0.claims.live) j.2 ∙ p.live) _)

pub invariant_of-result : goal.invariant_of-result
invariant_of-result c =
    let j = c.join_seat.ensures in
    let l = c.load.ensures in
    let p = c.left.invariant.1 in
    let e = l.2.settled ∙ ap (λ m. (record m.0 { met = None }, m.1)) j.2 in
    let k = p.nodes_is in
    let b = ap (λ m. m.0.claims.count) j.2 in
    let both = carries_joined _ _ _ _ c.left.inside.seat.me.0 p _ _ _ _ c.right.inside.seat.me.0 c.right.invariant.1
    (λ x has. let a = l.2.tells.low x (subst (λ m. Member x (places m.0)) (sym j.2) has) in omega (arith, a, b, k))
    (λ t has. let a = l.2.tells.state_low t (subst (λ m. Member t m.0.states) (sym j.2) has) in omega (arith, a, b, k)) in
    (ap (λ m. m.1) e ∙ c.left.invariant.0, carried _ _ _ _ _ both _ _ (ap (λ z. z.words) (l.0 ∙ j.0)) (ap (λ m. m.0) e))

pub returns-clause-joined : goal.returns-clause-joined
returns-clause-joined c =
    let j = c.join_seat.ensures in
    let l = c.load.ensures in
    let kl = ap (λ p. p.knows) c.left.view_is in
    ap (λ m. m.0) l.2.settled ∙ (ap (λ m. record m.0 { met = None }) j.2 ∙ (λ i. joined (kl i) ((ap (λ p. p.knows) c.right.view_is) i)))

pub returns-clause-united : goal.returns-clause-united
returns-clause-united c =
    let kl = ap (λ p. p.knows) c.left.view_is in
    let kr = ap (λ p. p.knows) c.right.view_is in
    let m = subst (λ (o : Option MetView). IfSome o Meeting) (ap (λ m. m.0.met) c.join_seat.ensures.2) c.load.ensures.2.meeting in
    let u = unites_views c.left.inside.seat.me.0 c.right.inside.seat.me.0 m in
    subst (λ (x : MarksView × MarksView × MarksView). United x.0 x.1 x.2) (λ i. (kl i, kr i, (sym (returns-clause-joined c ∙ (λ k. joined (sym kl k) (sym kr k)))) i)) u

pub returns-clause-closed : goal.returns-clause-closed
returns-clause-closed c =
    let l = c.load.ensures in
    let k = l.2.tells.closed (ap (λ m. m.0.climb) c.join_seat.ensures.2 ∙ c.left.invariant.1.climb) in
    subst IsClosed (sym (ap (λ m. m.0) l.2.settled)) record { upwards = k.upwards; busy = k.busy }

pub returns-clause-dropped : goal.returns-clause-dropped
returns-clause-dropped c =
    let l = c.load.ensures in
    subst (λ (v : MarksView). (x : ℕ) → 0 < times x v.dropped → HasOwn v.own x) (sym (ap (λ m. m.0) l.2.settled)) (λ x p. l.2.tells.dropped x p)

pub returns-clause-kept : goal.returns-clause-kept
returns-clause-kept c =
    let l = c.load.ensures in
    subst (λ (v : MarksView). (e : SharedView) → Member e v.shared → times e.node.slot v.dropped ≡ 0) (sym (ap (λ m. m.0) l.2.settled)) (λ e m. l.2.tells.kept e m)
