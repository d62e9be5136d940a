use Rattle.std.proofs.Common.{sym, subst, inl, inr, refl, arith, ap}
use Rattle.psac_slots.specs.Handles.{Member}
use Rattle.psac_readers.specs.Chained.{mods_of}
use Rattle.psac_fork.proofs.tests.readers.two_sides_enter_one_set.Goals as goal

pub both_enter-entered-requires-clause-inside : goal.both_enter-entered-requires-clause-inside
both_enter-entered-requires-clause-inside g c = let e = ap (λ v. v.mods) c.in_ok-readers.ensures.1 in omega (arith, e)

pub both_enter-entered-requires-clause-mine : goal.both_enter-entered-requires-clause-mine
both_enter-entered-requires-clause-mine g c = subst (λ v. Member 1 (mods_of v.walk)) (sym c.in_ok-readers.ensures.1) (inr (inl refl))
