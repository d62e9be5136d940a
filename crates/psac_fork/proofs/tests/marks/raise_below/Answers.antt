use Rattle.std.proofs.Common.{◌∷◌, sym, subst, inl, refl, Some}
use Rattle.psac_slots.specs.Handles.{Member}
use Rattle.psac_marks.specs.declared.view.OwnView.{OwnView}
use Rattle.psac_marks.specs.declared.view.MarksView.{MarksView}
use Rattle.psac_marks.specs.Marked.{own_place}
use Rattle.psac_marks.specs.Passes.{Owns}
use Rattle.psac_marks.proofs.Callers.{claimed_own, claimed_leads, owns_claimed, leads_child}
use Rattle.psac_fork.proofs.tests.marks.raise_below.Goals as goal

pub raise-requires-clause-path : goal.raise-requires-clause-path
raise-requires-clause-path c =
    let k = c.in-Ok.ensures in
    let v = c.claim.new.pass.knows in
    let old = c.requires.path in
    let o : OwnView = record { node = c.in-Ok.node; parent = Some c.args.parent.slot } in
    let mine = subst (Member o) (sym (claimed_own _ _ _ _ k.ok)) (inl refl) in
    (own_place v.claims.branch o ∷ old.0, leads_child v c.in-Ok.node c.args.parent.slot old.0 k.kept mine (claimed_leads _ _ _ _ k.ok c.args.parent.slot old.0 old.1))

pub returns-clause-own : goal.returns-clause-own
returns-clause-own c = let r = c.raise.ensures.raised in subst (λ (u : MarksView). Owns u c.in-Ok.node) (sym r.3) (owns_claimed _ _ _ _ c.in-Ok.ensures.ok)
