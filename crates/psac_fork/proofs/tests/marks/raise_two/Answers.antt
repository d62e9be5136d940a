use Rattle.std.proofs.Common.{◌≡◌, ◌∙◌, ◌∷◌, [], List, sym, ap, subst, inl, inr, refl, Some, None}
use Rattle.psac_ops.specs.declared.plain.Handle.{Handle}
use Rattle.psac_slots.specs.Handles.{Member}
use Rattle.psac_marks.specs.declared.view.OwnView.{OwnView}
use Rattle.psac_marks.specs.declared.view.MarksView.{MarksView}
use Rattle.psac_marks.specs.Marked.{Place}
use Rattle.psac_marks.specs.Passes.{Owns, Leads, Claims}
use Rattle.psac_marks.proofs.Callers.{claimed_own, claimed_dropped, keeps_own, owns_still, leads_three, owns_four}
use Rattle.psac_fork.proofs.tests.marks.raise_two.Goals as goal

abbrev below : Handle → Handle → OwnView
below parent node = record { node = node; parent = Some parent.slot }

abbrev pair : Handle → Handle → List OwnView → List OwnView
pair root child os = below root child ∷ record { node = root; parent = None } ∷ os

abbrev four : Handle → Handle → Handle → Handle → List OwnView → List OwnView
four root child one two os = below child two ∷ below child one ∷ pair root child os

owns_child : (v : MarksView) (root child : Handle) (os : List OwnView) → v.own ≡ pair root child os → Owns v child
owns_child v root child os is = (below root child, subst (Member (below root child)) (sym is) (inl refl), refl)

owned : (v : MarksView) (root child one two : Handle) (os : List OwnView) → v.own ≡ four root child one two os
    → Owns v two × Owns v one × Owns v child × Owns v root
owned v root child one two os is = owns_four v (below child two) (below child one) (below root child) (record { node = root; parent = None }) os is

led : (v : MarksView) (root child one two : Handle) (os : List OwnView) → v.own ≡ four root child one two os → v.dropped ≡ []
    → (node : Handle) → Member (below child node) (four root child one two os) → (path : List Place) × Leads v node.slot path
led v root child one two os is kept node at =
    let had : (o : OwnView) → Member o (four root child one two os) → Member o v.own = λ o m. subst (Member o) (sym is) m in
    leads_three v root child node kept (had _ at) (had _ (inr (inr (inl refl)))) (had _ (inr (inr (inr (inl refl)))))

-- a pass that had a root and its child claims two nodes below the child
module _ (u v w : MarksView) (root child one two : Handle) (os : List OwnView) (own : u.own ≡ pair root child os)
    (k : Claims u one (Some child.slot) v) (l : Claims v two (Some child.slot) w) where
  has_four : w.own ≡ four root child one two os
  has_four = claimed_own _ _ _ _ l ∙ ap (λ os. below child two ∷ os) (claimed_own _ _ _ _ k ∙ ap (λ os. below child one ∷ os) own)

  keeps_all : u.dropped ≡ [] → w.dropped ≡ []
  keeps_all kept = claimed_dropped _ _ _ _ l ∙ (claimed_dropped _ _ _ _ k ∙ kept)

pub claim-requires-clause-parent : goal.claim-requires-clause-parent
claim-requires-clause-parent c =
    let r = c.in_ok-root in
    keeps_own r.pass.knows r.child r.ensures.kept (owns_child r.pass.knows _ _ _ r.ensures.own)

pub claim-requires-2-clause-parent : goal.claim-requires-2-clause-parent
claim-requires-2-clause-parent c =
    let r = c.in_ok-root in
    let k = c.in-Ok.ensures.ok in
    let owns = owns_still _ _ _ _ k r.child (owns_child r.pass.knows _ _ _ r.ensures.own) in
    keeps_own c.claim.new.pass.knows r.child (claimed_dropped _ _ _ _ k ∙ r.ensures.kept) owns

pub raise-requires-clause-path : goal.raise-requires-clause-path
raise-requires-clause-path c =
    let r = c.in_ok-root in
    let k = c.in-Ok.ensures.ok in
    let l = c.in-Ok-claim.ensures.ok in
    let has = has_four _ _ _ r.root r.child _ _ _ r.ensures.own k l in
    led c.claim-2.new.pass.knows r.root r.child _ _ _ has (keeps_all _ _ _ r.root r.child _ _ _ r.ensures.own k l r.ensures.kept) _ (inr (inl refl))

pub raise-requires-2-clause-path : goal.raise-requires-2-clause-path
raise-requires-2-clause-path c =
    let r = c.in_ok-root in
    let k = c.in-Ok.ensures.ok in
    let l = c.in-Ok-claim.ensures.ok in
    let on = c.raise.ensures.raised.3 in
    let own = c.asked-first.ensures.own ∙ ap (λ (u : MarksView). u.own) on ∙ has_four _ _ _ r.root r.child _ _ _ r.ensures.own k l in
    let kept = c.asked-first.ensures.dropped ∙ ap (λ (u : MarksView). u.dropped) on ∙ keeps_all _ _ _ r.root r.child _ _ _ r.ensures.own k l r.ensures.kept in
    led c.asked-first.new.pass.knows r.root r.child _ _ _ own kept _ (inl refl)

-- after the first raise
owns_first : (c : goal.After-pass-5-1) → let u = c.raise.new.pass.knows in
    Owns u c.in-Ok-claim.two × Owns u c.in-Ok.one × Owns u c.in_ok-root.child × Owns u c.in_ok-root.root
owns_first c =
    let r = c.in_ok-root in
    let has = has_four _ _ _ r.root r.child _ _ _ r.ensures.own c.in-Ok.ensures.ok c.in-Ok-claim.ensures.ok in
    owned c.raise.new.pass.knows r.root r.child _ _ _ (ap (λ (u : MarksView). u.own) c.raise.ensures.raised.3 ∙ has)

-- and after the second
owns_second : (c : goal.After-pass-7-1) → let u = c.raise-2.new.pass.knows in
    Owns u c.in-Ok-claim.two × Owns u c.in-Ok.one × Owns u c.in_ok-root.child × Owns u c.in_ok-root.root
owns_second c =
    let r = c.in_ok-root in
    let has = has_four _ _ _ r.root r.child _ _ _ r.ensures.own c.in-Ok.ensures.ok c.in-Ok-claim.ensures.ok in
    let still = c.asked-first.ensures.own ∙ ap (λ (u : MarksView). u.own) c.raise.ensures.raised.3 ∙ has in
    owned c.raise-2.new.pass.knows r.root r.child _ _ _ (ap (λ (u : MarksView). u.own) c.raise-2.ensures.raised.3 ∙ still)

pub asked-first-requires-clause-root : goal.asked-first-requires-clause-root
asked-first-requires-clause-root c = (owns_first c).3

pub asked-first-requires-clause-child : goal.asked-first-requires-clause-child
asked-first-requires-clause-child c = (owns_first c).2

pub asked-first-requires-clause-one : goal.asked-first-requires-clause-one
asked-first-requires-clause-one c = (owns_first c).1

pub asked-first-requires-clause-two : goal.asked-first-requires-clause-two
asked-first-requires-clause-two c = (owns_first c).0

pub asked-second-requires-clause-root : goal.asked-second-requires-clause-root
asked-second-requires-clause-root c = let owns = owns_second c in owns.3

pub asked-second-requires-clause-child : goal.asked-second-requires-clause-child
asked-second-requires-clause-child c = let owns = owns_second c in owns.2

pub asked-second-requires-clause-one : goal.asked-second-requires-clause-one
asked-second-requires-clause-one c = let owns = owns_second c in owns.1

pub asked-second-requires-clause-two : goal.asked-second-requires-clause-two
asked-second-requires-clause-two c = let owns = owns_second c in owns.0
