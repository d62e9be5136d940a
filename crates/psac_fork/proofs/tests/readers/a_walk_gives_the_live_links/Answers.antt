use Rattle.std.proofs.Common.{sym, subst, inl, inr, refl, arith, ap}
use Rattle.psac_readers.specs.Steps.{Has}
use Rattle.psac_fork.proofs.tests.readers.a_walk_gives_the_live_links.Goals as goal

pub enter_two-entered-requires-clause-inside : goal.enter_two-entered-requires-clause-inside
enter_two-entered-requires-clause-inside g c = let e = ap (λ v. v.mods) c.in_ok-readers.ensures.1 in omega (arith, e)

pub enter_two-entered-requires-clause-set : goal.enter_two-entered-requires-clause-set
enter_two-entered-requires-clause-set g c = subst (Has 1) (sym c.in_ok-readers.ensures.1) (inl (inr (inl refl)))
