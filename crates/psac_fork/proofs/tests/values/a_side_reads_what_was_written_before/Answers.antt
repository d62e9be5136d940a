use Rattle.std.proofs.Common.{[], ◌∷◌, Some, refl, sym, subst, inl}
use Rattle.psac_slots.specs.Handles.{Member}
use Rattle.psac_values.specs.declared.view.OwnedView.{OwnedView}
use Rattle.psac_values.specs.declared.view.ValueView.{ValueView}
use Rattle.psac_fork.proofs.tests.values.a_side_reads_what_was_written_before.Goals as goal

pub read_on_the_right-requires-clause-mine : goal.read_on_the_right-requires-clause-mine
read_on_the_right-requires-clause-mine g c =
    let input : OwnedView = record { of = record { slot = 0; generation = 0 }; words = Some 0 ∷ Some 0 ∷ Some 0 ∷ [] } in
    (input, subst (λ (u : ValueView). Member input u.mine) (sym c.in_ok-values.ensures.1) (inl refl), refl)
