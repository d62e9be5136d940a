use Rattle.std.proofs.Common.{◌∙◌, ◌∷◌, [], sym, ap, subst, inl, refl, None}
use Rattle.psac_slots.specs.Handles.{Member}
use Rattle.psac_marks.specs.declared.view.OwnView.{OwnView}
use Rattle.psac_marks.specs.declared.view.MarksView.{MarksView}
use Rattle.psac_marks.specs.Marked.{own_place}
use Rattle.psac_marks.specs.Steps.{asked, cleared}
use Rattle.psac_marks.specs.Passes.{Owns}
use Rattle.psac_marks.proofs.Callers.{claimed_own, claimed_dropped, owns_claimed, leads_root}
use Rattle.psac_fork.proofs.tests.marks.raise_and_clear.Goals as goal

pub raise-requires-clause-path : goal.raise-requires-clause-path
raise-requires-clause-path c =
    let k = c.in-Ok.ensures.ok in
    let v = c.claim.new.pass.knows in
    let top : OwnView = record { node = c.in-Ok.root; parent = None } in
    (own_place v.claims.branch top ∷ [], leads_root v c.in-Ok.root (claimed_dropped _ _ _ _ k ∙ c.requires.kept) (subst (Member top) (sym (claimed_own _ _ _ _ k)) (inl refl)))

pub is_marked-raised-requires-clause-own : goal.is_marked-raised-requires-clause-own
is_marked-raised-requires-clause-own c = subst (λ (u : MarksView). Owns u c.in-Ok.root) (sym c.raise.ensures.raised.3) (owns_claimed _ _ _ _ c.in-Ok.ensures.ok)

pub clear-requires-clause-own : goal.clear-requires-clause-own
clear-requires-clause-own c = subst (λ (u : MarksView). Owns u c.in-Ok.root) (sym (c.is_marked-raised.ensures.asks ∙ ap asked c.raise.ensures.raised.3)) (owns_claimed _ _ _ _ c.in-Ok.ensures.ok)

pub is_marked-cleared-requires-clause-own : goal.is_marked-cleared-requires-clause-own
is_marked-cleared-requires-clause-own c = subst (λ (u : MarksView). Owns u c.in-Ok.root) (sym (c.clear.ensures.cleared ∙ ap (λ (u : MarksView). cleared c.in-Ok.root.slot u) (c.is_marked-raised.ensures.asks ∙ ap asked c.raise.ensures.raised.3))) (owns_claimed _ _ _ _ c.in-Ok.ensures.ok)
