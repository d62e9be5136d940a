use Rattle.std.proofs.Common.{◌≡◌, ◌∙◌, ◌∷◌, [], ℕ, List, Bool, true, false, sym, ap, subst, inl, inr, refl, Some, None}
use Rattle.std.specs.Prelude.{filter, not, IfSome}
use Rattle.psac_ops.specs.declared.plain.Handle.{Handle}
use Rattle.psac_slots.specs.Handles.{Member}
use Rattle.psac_marks.specs.declared.view.OwnView.{OwnView}
use Rattle.psac_marks.specs.declared.view.MarksView.{MarksView}
use Rattle.psac_marks.specs.Marked.{Place}
use Rattle.psac_marks.specs.Steps.{goes_over, now_shared, left_of, right_of, joined}
use Rattle.psac_marks.specs.Passes.{Owns, Keeps, Leads}
use Rattle.psac_marks.proofs.Callers.{leads_shared, all_shared, owns_back, owns_left, owns_right}
use Rattle.psac_fork.proofs.tests.marks.marked_by_both.Goals as goal

none : ℕ → Bool
none _ = false

abbrev top : Handle → OwnView
top root = record { node = root; parent = None }

abbrev mid : Handle → Handle → OwnView
mid root child = record { node = child; parent = Some root.slot }

abbrev HasPath : MarksView → Handle → Type 0
HasPath u child = Keeps u child × ((path : List Place) × Leads u child.slot path)

-- a pass that has a root and its child, and gives both to two sides
module _ (v : MarksView) (root child : Handle) (os : List OwnView) (own : v.own ≡ mid root child ∷ top root ∷ os) where
  shares : (o : OwnView) → Member o (mid root child ∷ top root ∷ os)
      → Member (record { node = o.node; parent = o.parent; label = v.claims.branch }) (now_shared (λ _. true) none v)
  shares o at = all_shared none v o (subst (Member o) (sym own) at)

  leads_both : v.dropped ≡ [] → (l r : MarksView) → l ≡ left_of (λ _. true) none v → r ≡ right_of (λ _. true) none v → HasPath l child × HasPath r child
  leads_both kept l r on_left on_right = (
    subst (λ (u : MarksView). HasPath u child) (sym on_left) (leads_shared (left_of (λ _. true) none v) v.claims.branch root child
        (ap (filter (λ x. not (goes_over (λ _. true) none v x))) kept) (shares _ (inl refl)) (shares _ (inr (inl refl)))),
    subst (λ (u : MarksView). HasPath u child) (sym on_right) (leads_shared (right_of (λ _. true) none v) v.claims.branch root child
        (ap (filter (goes_over (λ _. true) none v)) kept) (shares _ (inl refl)) (shares _ (inr (inl refl)))),
  )

  -- what both had is owned again once they have joined
  owned_again : (f l r w : MarksView) → f ≡ left_of (λ _. true) none v → l.shared ≡ f.shared → l.claims.branch ≡ f.claims.branch → w ≡ joined l r
      → (o : OwnView) → Member o (mid root child ∷ top root ∷ os) → Owns w o.node
  owned_again f l r w on_left shared branch is o at =
      let all = subst (Member _) (sym (shared ∙ ap (λ (u : MarksView). u.shared) on_left)) (shares o at) in
      subst (λ (u : MarksView). Owns u o.node) (sym is)
      (owns_back l r _ v.claims.branch all refl (branch ∙ ap (λ (u : MarksView). u.claims.branch) on_left))

pub raise_both-left-requires-clause-parent : goal.raise_both-left-requires-clause-parent
raise_both-left-requires-clause-parent g c =
    let r = c.in_ok-root in
    let both = leads_both r.pass.knows r.root r.child _ r.ensures.own r.ensures.kept _ _ c.fork-left.ensures.left c.fork-left.ensures.right in
    (both.0.0, both.1.0)

pub raise_both-left-requires-clause-path : goal.raise_both-left-requires-clause-path
raise_both-left-requires-clause-path g c =
    let r = c.in_ok-root in
    let both = leads_both r.pass.knows r.root r.child _ r.ensures.own r.ensures.kept _ _ c.fork-left.ensures.left c.fork-left.ensures.right in
    (both.0.1, both.1.1)

pub asked-requires-clause-root : goal.asked-requires-clause-root
asked-requires-clause-root g c =
    let r = c.in_ok-root in
    let both = c.raise_both-left.ensures in
    owned_again r.pass.knows r.root r.child _ r.ensures.own _ c.raise_both-left.result.0.1.knows c.raise_both-left.result.1.1.knows _
    c.fork-left.ensures.left both.shared both.branch.0 c.join-pass.ensures.joined (top r.root) (inr (inl refl))

pub asked-requires-clause-child : goal.asked-requires-clause-child
asked-requires-clause-child g c =
    let r = c.in_ok-root in
    let both = c.raise_both-left.ensures in
    owned_again r.pass.knows r.root r.child _ r.ensures.own _ c.raise_both-left.result.0.1.knows c.raise_both-left.result.1.1.knows _
    c.fork-left.ensures.left both.shared both.branch.0 c.join-pass.ensures.joined (mid r.root r.child) (inl refl)

pub asked-requires-clause-one : goal.asked-requires-clause-one
asked-requires-clause-one g c =
    let left = c.raise_both-left.result.0.1.knows in
    let one = c.in_ok-one.one in
    let owns = subst (λ o. IfSome o (λ h. Owns left h)) c.in_ok-one.was c.raise_both-left.ensures.one in
    subst (λ (u : MarksView). Owns u one) (sym c.join-pass.ensures.joined) (owns_left left c.raise_both-left.result.1.1.knows one owns)

pub asked-requires-clause-two : goal.asked-requires-clause-two
asked-requires-clause-two g c =
    let right = c.raise_both-left.result.1.1.knows in
    let owns = subst (λ o. IfSome o (λ h. Owns right h)) c.in_ok-two.was c.raise_both-left.ensures.two in
    subst (λ (u : MarksView). Owns u c.in_ok-two.two) (sym c.join-pass.ensures.joined)
    (owns_right c.raise_both-left.result.0.1.knows right c.in_ok-two.two owns)
