use Rattle.psac_marks.proofs.Terms.{◌≡◌, subst, ◌∙◌, refl, arith, Member, MarksView, Place, places, RaisedOne}
use Rattle.psac_marks.proofs.Climbing.{begins, stands, goes_up, ends}
use Rattle.psac_marks.proofs.marks.climb.Goals as goal

pub loop-above-init : goal.loop-above-init
loop-above-init c = (refl, refl, begins c.args.seat.now.me.0 c.args.node c.requires.path.0 c.requires.idle c.requires.path.1)

pub raise_one-requires-clause-low : goal.raise_one-requires-clause-low
raise_one-requires-clause-low c =
    let m = c.loop-above.invariant.2 in
    let s = stands _ _ _ _ m in
    omega (arith, c.requires.low s.0 (subst (λ (u : MarksView). Member s.0 (places u)) m.view s.4), s.3)

pub raise_one-requires-clause-has : goal.raise_one-requires-clause-has
raise_one-requires-clause-has c = let s = stands _ _ _ _ c.loop-above.invariant.2 in (s.0, s.4, s.3)

pub raise_one-requires-clause-kept : goal.raise_one-requires-clause-kept
raise_one-requires-clause-kept c = (stands _ _ _ _ c.loop-above.invariant.2).5

pub loop-above-smaller : goal.loop-above-smaller
loop-above-smaller c =
    (goes_up _ _ _ _ c.loop-above.invariant.2 c.raise_one.new.seat.me.0 c.in-Some.above c.in-Some.ensures.raised).1

pub loop-above-preserved : goal.loop-above-preserved
loop-above-preserved c =
    let i = c.loop-above.invariant in
    let r = goes_up _ _ _ _ i.2 c.raise_one.new.seat.me.0 c.in-Some.above c.in-Some.ensures.raised in
    (c.in-Some.ensures.seat.0 ∙ i.0, c.in-Some.ensures.seat.1 ∙ i.1, r.0)

pub returns-clause-raised : goal.returns-clause-raised
returns-clause-raised c =
    ends _ _ _ _ c.loop-above.invariant.2 c.raise_one.new.seat.me.0 c.requires.idle (subst (λ o. (e : Place) → Member e (places c.loop-above.seat.me.0) → e.node.slot ≡ c.loop-above.slot → RaisedOne c.loop-above.seat.me.0 e o c.raise_one.new.seat.me.0) c.in_default.is c.raise_one.ensures.raised)
