use Rattle.std.proofs.Common.{[], ◌∷◌, Some, refl, sym, subst, inl}
use Rattle.psac_values.specs.declared.view.ValueView.{ValueView}
use Rattle.psac_values.specs.Knowing.{Has}
use Rattle.psac_fork.proofs.tests.passes.a_side_writes_what_it_has.Goals as goal

pub written_on_the_right-requires-clause-mine : goal.written_on_the_right-requires-clause-mine
written_on_the_right-requires-clause-mine g c = subst (λ (v : ValueView). Has v (record { slot = 0; generation = 0 })) (sym c.in_ok-tables.ensures.values) (record { of = record { slot = 0; generation = 0 }; words = Some 0 ∷ Some 0 ∷ Some 0 ∷ [] }, inl refl, refl)
