use Rattle.std.proofs.Common.{◌∙◌, ◌∷◌, ◌++◌, [], List, map, true, false, sym, ap, subst, inl, refl, None}
use Rattle.std.specs.Prelude.{filter}
use Rattle.psac_slots.specs.Branches.{stem}
use Rattle.psac_slots.specs.Handles.{Member}
use Rattle.psac_slots.specs.Divided.{goes, comes_back}
use Rattle.psac_slots.proofs.Pairs.{member_left, member_right}
use Rattle.psac_marks.specs.declared.view.OwnView.{OwnView}
use Rattle.psac_marks.specs.declared.view.MarksView.{MarksView}
use Rattle.psac_marks.specs.Marked.{Place, own_place, ways}
use Rattle.psac_marks.specs.Steps.{goes_over, right_of, regained}
use Rattle.psac_marks.specs.Passes.{Leads, climbed}
use Rattle.psac_marks.proofs.Callers.{claimed_own, claimed_dropped, leads_root}
use Rattle.psac_fork.proofs.tests.marks.raise_on_the_right.Goals as goal

pub raise-requires-clause-path : goal.raise-requires-clause-path
raise-requires-clause-path c =
    let k = c.in-Ok.ensures.ok in
    let v = c.claim.new.pass.knows in
    let u = right_of (λ _. false) (λ _. true) v in
    let top : OwnView = record { node = c.in-Ok.root; parent = None } in
    let mine = subst (λ os. Member top (filter (goes ways (λ _. false) (λ _. true)) os)) (sym (claimed_own _ _ _ _ k)) (inl refl) in
    let kept = ap (filter (goes_over (λ _. false) (λ _. true) v)) (claimed_dropped _ _ _ _ k ∙ c.requires.kept) in
    subst (λ (w : MarksView). (path : List Place) × Leads w c.in-Ok.root.slot path) (sym c.fork-left.ensures.right) (own_place u.claims.branch top ∷ [], leads_root u c.in-Ok.root kept mine)

pub is_marked-marked-requires-clause-own : goal.is_marked-marked-requires-clause-own
is_marked-marked-requires-clause-own c =
    let k = c.in-Ok.ensures.ok in
    let top : OwnView = record { node = c.in-Ok.root; parent = None } in
    let mine = subst (λ os. Member top (filter (goes ways (λ _. false) (λ _. true)) os)) (sym (claimed_own _ _ _ _ k)) (inl refl) in
    let r = c.raise.ensures.raised in
    let left = c.fork-left.result.0.knows in
    let right = c.raise.new.pass.knows in
    let m = subst (λ (w : MarksView). Member top w.own) (sym (r.3 ∙ ap (climbed r.0 r.1) c.fork-left.ensures.right)) mine in
    let a = c.regain-pass.ensures.counter in
    let both = member_left top (left.own ++ right.own) (map ways.back (filter (comes_back ways (stem left.claims.branch)) left.shared)) (member_right top left.own right.own m) in
    (top, subst (λ (w : MarksView). Member top w.own) (sym (a.1 ∙ ap (regained a.0) c.join.ensures.joined)) both, refl)
