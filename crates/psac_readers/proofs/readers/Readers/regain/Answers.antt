use Rattle.psac_readers.proofs.Terms.{ℕ, ◌≤◌, sym, ap, subst, ◌∙◌, arith, sum_by, named, ReadersView, Carries}
use Rattle.psac_readers.proofs.Acts.{regains}
use Rattle.psac_readers.proofs.Carrying.{carries_regained}
use Rattle.psac_readers.proofs.readers.Readers.regain.Goals as goal

pub load-requires : goal.load-requires
load-requires c =
    let is = c.pass.view_is in let p = c.pass.invariant.1 in
    let t = ap (λ p. p.table) is ∙ (c.requires.table ∙ sym c.self.view_is) in
    (t, omega (arith, ap (λ z. z.words) t, p.words_is), regains _ _ _ _ c.pass.inside.seat.me.0 c.pass.inside.seat.me.1 p.live (ap (λ p. p.knows.claims.branch) is ∙ c.requires.joined))

pub returns-clause-alone : goal.returns-clause-alone
returns-clause-alone c = let l = c.load.ensures.2 in ap (λ m. m.0.shared) l.0 ∙ l.1

pub returns-clause-once : goal.returns-clause-once
returns-clause-once c = let l = c.load.ensures.2 in λ x. subst (λ m. sum_by (named x) m.0.links ≤ 1) (sym l.0) (l.3 x)

pub invariant_of-result : goal.invariant_of-result
invariant_of-result c =
    let s = c.load.ensures in let e = s.2.0 in
    (ap (λ m. m.1) e ∙ c.pass.invariant.0, subst (λ (x : ℕ × ReadersView). Carries c.pass.inside.links c.pass.inside.mods c.pass.inside.head c.pass.inside.room x.0 x.1) (λ j. (ap (λ z. z.words) (sym s.0) j, ap (λ m. m.0) (sym e) j)) (carries_regained _ _ _ _ _ c.pass.inside.seat.me.0 c.pass.invariant.1 _))
