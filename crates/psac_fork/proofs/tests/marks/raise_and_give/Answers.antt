use Rattle.std.proofs.Common.{◌≡◌, ◌∙◌, ◌∷◌, [], ℕ, suc, Option, sym, ap, subst, inl, refl, Some, None}
use Rattle.psac_slots.specs.Handles.{Member}
use Rattle.psac_slots.specs.Claiming.{counted_on}
use Rattle.psac_marks.specs.declared.view.OwnView.{OwnView}
use Rattle.psac_marks.specs.declared.view.MarksView.{MarksView}
use Rattle.psac_marks.specs.Marked.{own_place}
use Rattle.psac_marks.specs.Steps.{detached}
use Rattle.psac_marks.specs.Passes.{Owns}
use Rattle.psac_marks.proofs.Callers.{claimed_own, claimed_dropped, owns_claimed, leads_root}
use Rattle.psac_fork.proofs.tests.marks.raise_and_give.Goals as goal

pub raise-requires-clause-path : goal.raise-requires-clause-path
raise-requires-clause-path c =
    let k = c.in-Ok.ensures.ok in
    let v = c.claim.new.pass.knows in
    let top : OwnView = record { node = c.in-Ok.root; parent = None } in
    (own_place v.claims.branch top ∷ [], leads_root v c.in-Ok.root (claimed_dropped _ _ _ _ k ∙ c.requires.kept) (subst (Member top) (sym (claimed_own _ _ _ _ k)) (inl refl)))

-- a claim of a sole pass leaves it sole
counts_on : (o : Option ℕ) (n k : ℕ) → o ≡ Some k → counted_on o n ≡ Some (suc n)
counts_on None n k e = absurd (cc)
counts_on (Some c) n k e = refl

pub give_all-requires-clause-sole : goal.give_all-requires-clause-sole
give_all-requires-clause-sole c =
    let k = c.in-Ok.ensures.ok in
    (suc k.index, ap (λ (u : MarksView). u.claims.counter) (c.raise.ensures.raised.3) ∙ (ap (λ (u : MarksView). u.claims.counter) k.becomes ∙ counts_on c.args.pass.now.knows.claims.counter k.index c.requires.sole.0 c.requires.sole.1))

pub detach-requires-clause-own : goal.detach-requires-clause-own
detach-requires-clause-own c = subst (λ (u : MarksView). Owns u c.in-Ok.root) (sym c.raise.ensures.raised.3) (owns_claimed _ _ _ _ c.in-Ok.ensures.ok)

pub release-requires-clause-sole : goal.release-requires-clause-sole
release-requires-clause-sole c =
    let k = c.in-Ok.ensures.ok in
    (suc k.index, ap (λ (u : MarksView). u.claims.counter) (c.detach.ensures.detached ∙ ap (detached c.in-Ok.root.slot) c.raise.ensures.raised.3) ∙ (ap (λ (u : MarksView). u.claims.counter) k.becomes ∙ counts_on c.args.pass.now.knows.claims.counter k.index c.requires.sole.0 c.requires.sole.1))

pub release-requires-clause-own : goal.release-requires-clause-own
release-requires-clause-own c = subst (λ (u : MarksView). Owns u c.in-Ok.root) (sym (c.detach.ensures.detached ∙ ap (detached c.in-Ok.root.slot) c.raise.ensures.raised.3)) (owns_claimed _ _ _ _ c.in-Ok.ensures.ok)
