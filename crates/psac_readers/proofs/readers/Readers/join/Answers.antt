use Rattle.psac_readers.proofs.Terms.{ℕ, ◌<◌, ◌≤◌, sym, ap, subst, ◌∙◌, arith, sum_by, set_else, ReadersView, named, joined, Carries}
use Rattle.psac_readers.proofs.Acts.{loads}
use Rattle.psac_readers.proofs.Sides.{joins_at}
use Rattle.psac_readers.proofs.Carrying.{carries_joined}
use Rattle.psac_readers.proofs.readers.Readers.join.Goals as goal

pub join_seat-requires : goal.join_seat-requires
join_seat-requires c =
    let il = c.left.view_is in
    let ir = c.right.view_is in
    let p = c.left.invariant.1 in
    let tl = ap (λ p. p.table) il ∙ (c.requires.table.0 ∙ sym c.self.view_is) in
    let b = c.requires.sides in (
      tl,
      (ap (λ p. p.table) ir ∙ (c.requires.table.1 ∙ sym c.self.view_is)),
      c.right.invariant.0,
      omega (arith, ap (λ z. z.words) tl, p.words_is),
      λ s h at two there. joins_at _ _ s.words s.views h _ _ c.left.inside.seat.me.0 c.right.inside.seat.me.0 b.0 at
          (sym (set_else s.views _ _ (joined c.left.inside.seat.me.0 c.right.inside.seat.me.0) two) ∙ there) two p.live c.right.invariant.1.live (ap (λ p. p.knows.claims.branch) il ∙ b.1) (ap (λ p. p.knows.claims.branch) ir ∙ b.2),
    )

pub load-requires : goal.load-requires
load-requires c =
    let j = c.join_seat.ensures in
    let p = c.left.invariant.1 in
    let tl = ap (λ p. p.table) c.left.view_is ∙ (c.requires.table.0 ∙ sym c.self.view_is) in
    (j.0 ∙ tl, omega (arith, ap (λ z. z.words) tl, p.words_is), loads _ _ _ _ c.join_seat.new.seat.me.0 c.join_seat.new.seat.me.1 (ap (λ m. m.0.claims.live) j.2 ∙ p.live) _)

pub returns-clause-once : goal.returns-clause-once
returns-clause-once c = let l = c.load.ensures.2 in λ x. subst (λ m. sum_by (named x) m.0.links ≤ 1) (sym l.same) (l.once x)

pub invariant_of-result : goal.invariant_of-result
invariant_of-result c =
    let j = c.join_seat.ensures in
    let l = c.load.ensures in
    let p = c.left.invariant.1 in
    let e = l.2.same ∙ j.2 in (
      ap (λ m. m.1) e ∙ c.left.invariant.0,
      subst (λ (x : ℕ × ReadersView). Carries c.left.inside.links c.left.inside.mods c.left.inside.head c.left.inside.room x.0 x.1) (λ i. (ap (λ z. z.words) (sym (l.0 ∙ j.0)) i, ap (λ m. m.0) (sym e) i))
          (carries_joined _ _ _ _ _ c.left.inside.seat.me.0 p _ _ _ _ _ c.right.inside.seat.me.0 c.right.invariant.1
          (λ x has. let a = l.2.low x (subst (λ m. 0 < sum_by (named x) m.0.links) (sym j.2) has) in let b = ap (λ m. m.0.claims.count) j.2 in let k = p.links_is in omega (arith, a, b, k))),
    )
