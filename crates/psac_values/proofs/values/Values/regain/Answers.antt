use Rattle.psac_values.proofs.Terms.{ℕ, sym, ap, subst, ◌∙◌, arith, ValueView, Carries}
use Rattle.psac_values.proofs.Acts.{learns}
use Rattle.psac_values.proofs.Carrying.{carries_learned}
use Rattle.psac_values.proofs.values.Values.regain.Goals as goal

pub load-requires : goal.load-requires
load-requires c =
    let is = c.pass.view_is in
    let p = c.pass.invariant.1 in
    let t = ap (λ p. p.table) is ∙ (c.requires.table ∙ sym c.self.view_is) in
    (t, omega (arith, ap (λ z. z.words) t, p.words_is), learns _ _ _ _ c.pass.inside.seat.me.0 c.pass.inside.seat.me.1 p.live (ap (λ p. p.knows.claims.branch) is ∙ c.requires.joined))

pub returns-clause-alone : goal.returns-clause-alone
returns-clause-alone c = let l = c.load.ensures.2 in ap (λ m. m.0.known) l.0 ∙ l.1

pub invariant_of-result : goal.invariant_of-result
invariant_of-result c =
    let s = c.load.ensures in
    let e = s.2.0 in
    (ap (λ m. m.1) e ∙ c.pass.invariant.0, subst (λ (x : ℕ × ValueView). Carries c.pass.inside.fixed c.pass.inside.count c.pass.inside.head c.pass.inside.room x.0 x.1) (λ j. (ap (λ z. z.words) (sym s.0) j, ap (λ m. m.0) (sym e) j)) (carries_learned _ _ _ _ _ c.pass.inside.seat.me.0 c.pass.invariant.1 _))
