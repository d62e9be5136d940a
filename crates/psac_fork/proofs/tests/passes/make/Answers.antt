use Rattle.std.proofs.Common.{◌∷◌, [], sym, subst, inl, refl, None}
use Rattle.psac_slots.specs.Handles.{Member}
use Rattle.psac_marks.specs.declared.view.OwnView.{OwnView}
use Rattle.psac_marks.specs.declared.view.MarksView.{MarksView}
use Rattle.psac_marks.specs.Marked.{own_place}
use Rattle.psac_marks.specs.Passes.{Owns}
use Rattle.psac_marks.proofs.Callers.{claimed_own, owns_claimed}
use Rattle.psac_marks.proofs.Parts.{place_own}
use Rattle.psac_fork.proofs.tests.passes.make.Goals as goal

pub raise-requires-clause-path : goal.raise-requires-clause-path
raise-requires-clause-path c =
    let k = c.in-Ok-claim.ensures in
    let v = c.claim-2.new.pass.knows in
    let root : OwnView = record { node = c.in-Ok-claim.node; parent = None } in
    let mine = subst (Member root) (sym (claimed_own _ _ _ _ k.ok)) (inl refl) in
    (own_place v.claims.branch root ∷ [], (refl, place_own v root mine, k.kept, inl refl))

pub is_marked-marked-requires-clause-own : goal.is_marked-marked-requires-clause-own
is_marked-marked-requires-clause-own c =
    subst (λ (u : MarksView). Owns u c.in-Ok-claim.node) (sym c.raise.ensures.raised.3) (owns_claimed _ _ _ _ c.in-Ok-claim.ensures.ok)
