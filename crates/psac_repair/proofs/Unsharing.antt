-- What a pass shares isn't its own, also on both sides of a fork.
use Rattle.std.proofs.Common.{◌≡◌, ℕ, Bool, true, false, not, map, refl, ap, sym, ◌∙◌, ⊎_elim}
use Rattle.std.specs.Prelude.{filter}
use Rattle.psac_slots.specs.Handles.{Member}
use Rattle.psac_slots.specs.Divided.{stays, goes, lends}
use Rattle.psac_slots.proofs.Pairs.{member_cases, member_map, member_filter}
use Rattle.psac_laws.proofs.Places.{and_is, not_both}
use Rattle.psac_marks.specs.declared.view.OwnView.{OwnView}
use Rattle.psac_marks.specs.declared.view.SharedView.{SharedView}
use Rattle.psac_marks.specs.declared.view.MarksView.{MarksView}
use Rattle.psac_marks.specs.Marked.{ways}
use Rattle.psac_marks.specs.Steps.{left_of, right_of}
use Rattle.psac_repair.specs.Unshared.{Unshared}

not_is : (b : Bool) → not b ≡ true → b ≡ false
not_is true h = absurd cc
not_is false h = refl

module _ (S N : ℕ → Bool) (m : MarksView) (apart : Unshared m) where
  -- what is lent both sides share, and what neither has alone
  lent_apart : (o : OwnView) (e : SharedView) → Member o m.own → S o.node.slot ≡ false → Member e (left_of S N m).shared → o.node.slot ≡ e.node.slot → ⊥
  lent_apart o e i out j s =
      ⊎_elim
      (λ (k : Member e m.shared). apart o e i k s)
      (λ (k : Member e (map (ways.lend m.claims.branch) (filter (lends ways S N) m.own))).
      let q = member_map (ways.lend m.claims.branch) e (filter (lends ways S N) m.own) k in
      let c = member_filter (lends ways S N) q.0 m.own q.1 in
      not_both (ap S (s ∙ ap (λ (z : SharedView). z.node.slot) (sym q.2)) ∙ c.1) out)
      (member_cases e m.shared (map (ways.lend m.claims.branch) (filter (lends ways S N) m.own)) j)

  pub unshared_left : Unshared (left_of S N m)
  unshared_left o e i j s =
      let a = member_filter (stays ways S N) o m.own i in
      lent_apart o e a.0 (not_is (S o.node.slot) (and_is (not (S o.node.slot)) (not (N o.node.slot)) a.1).0) j s

  pub unshared_right : Unshared (right_of S N m)
  unshared_right o e i j s =
      let a = member_filter (goes ways S N) o m.own i in
      lent_apart o e a.0 (not_is (S o.node.slot) (and_is (not (S o.node.slot)) (N o.node.slot) a.1).0) j s
