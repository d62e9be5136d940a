use Rattle.psac_marks.proofs.Terms.{ℕ, sym, ap, subst, ◌∙◌, MarksView, Carries, IsBusy}
use Rattle.psac_marks.proofs.Carrying.{carries_climbed}
use Rattle.psac_marks.proofs.Climbing.{rises_busy}
use Rattle.psac_marks.proofs.marks.Marks.raise.Goals as goal

pub invariant_of-pass : goal.invariant_of-pass
invariant_of-pass c =
    let s = c.climb.ensures.seat in
    let r = c.climb.ensures.raised in
    (s.1 ∙ c.pass.invariant.0, subst (λ (x : ℕ × MarksView). Carries c.pass.inside.nodes c.pass.inside.head c.pass.inside.room x.0 x.1) (λ j. (ap (λ z. z.words) (sym s.0) j, sym r.3 j)) (carries_climbed _ _ _ _ c.pass.inside.seat.me.0 c.pass.invariant.1 r.0 r.1))

pub returns-clause-marked : goal.returns-clause-marked
returns-clause-marked c =
    let x = c.args.node.slot in
    let r = c.climb.ensures.raised in
    subst (λ (u : MarksView). IsBusy u x) (sym r.3) (rises_busy c.pass.inside.seat.me.0 x r.0 r.1 r.2)
