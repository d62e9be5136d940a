-- The sides of a tree divide a pass.
use Rattle.std.proofs.Common.{◌≡◌, ℕ, List, Bool, true, false, refl, sym, ap, ◌∙◌, ⊎_elim}
use Rattle.std.specs.Prelude.{not, ◌&&◌}
use Rattle.std.proofs.lemmas.Bool.{cases_Bool}
use Rattle.psac_ops.specs.declared.plain.Handle.{Handle}
use Rattle.psac_slots.specs.Divided.{stays, goes}
use Rattle.psac_slots.proofs.Pairs.{filter_member}
use Rattle.psac_values.specs.declared.view.ValueView.{ValueView}
use Rattle.psac_values.specs.Knowing.{Has}
use Rattle.psac_values.specs.Steps as values
use Rattle.psac_values.specs.Valued as valued
use Rattle.psac_marks.specs.declared.view.MarksView.{MarksView}
use Rattle.psac_marks.specs.Passes.{Owns, Parted}
use Rattle.psac_marks.specs.Steps as marks
use Rattle.psac_marks.specs.Marked as marked
use Rattle.psac_fork.specs.Parts.{lists, neither, AreParts}

none : (b : Bool) → (b && false) ≡ false
none true = refl
none false = refl

on_left : (a b : List Handle) (x : ℕ) → lists a x ≡ true → neither a b x ≡ false
on_left a b x e = ap (λ t. not t && not (lists b x)) e

on_right : (a b : List Handle) (x : ℕ) → lists b x ≡ true → neither a b x ≡ false
on_right a b x e = ap (λ t. not (lists a x) && not t) e ∙ none (not (lists a x))

-- what a side has isn't shared; what neither has is
beside : (a b : List Handle) (x : ℕ) → neither a b x ≡ false → lists a x ≡ false → lists b x ≡ true
beside a b x e l = twice (lists b x) (ap (λ t. not t && not (lists b x)) (sym l) ∙ e)
  where
    twice : (t : Bool) → not t ≡ false → t ≡ true
    twice true e = refl
    twice false e = sym e

pub parted : (a b : List Handle) (v : MarksView) → AreParts a b v → Parted (neither a b) (lists b) v
parted a b v p = record {
  families = λ o c mo mc e k s. ⊎_elim
      (λ (l : lists a o.node.slot ≡ true). let in_left = p.left_families o c mo mc e k l in (on_left a b c.node.slot in_left, p.apart c.node.slot in_left ∙ sym (p.apart o.node.slot l)))
      (λ (n : lists a o.node.slot ≡ false). let r = beside a b o.node.slot s n in let in_right = p.right_families o c mo mc e k r in (on_right a b c.node.slot in_right, in_right ∙ sym r))
      (cases_Bool (lists a o.node.slot));
  dropped = p.dropped;
}

both : (s t : Bool) (p q : Bool) → s ≡ p → t ≡ q → (not p && q) ≡ true → (not s && t) ≡ true
both s t p q e f h = (λ i. not (e i) && f i) ∙ h

module _ (a b : List Handle) where
  pub has_left : (v : ValueView) (m : Handle) → Has v m → lists a m.slot ≡ true → lists b m.slot ≡ false → Has (values.left_of (neither a b) (lists b) v) m
  has_left v m h l r =
      let s = ap (λ (k : Handle). k.slot) h.2 in
      let stay = both (neither a b h.0.of.slot) (not (lists b h.0.of.slot)) false true (ap (neither a b) s ∙ on_left a b m.slot l) (ap (λ x. not (lists b x)) s ∙ ap not r) refl in
      (h.0, filter_member (stays valued.ways (neither a b) (lists b)) h.0 v.mine h.1 stay, h.2)

  pub has_right : (v : ValueView) (m : Handle) → Has v m → lists b m.slot ≡ true → Has (values.right_of (neither a b) (lists b) v) m
  has_right v m h r =
      let s = ap (λ (k : Handle). k.slot) h.2 in
      let go = both (neither a b h.0.of.slot) (lists b h.0.of.slot) false true (ap (neither a b) s ∙ on_right a b m.slot r) (ap (lists b) s ∙ r) refl in
      (h.0, filter_member (goes valued.ways (neither a b) (lists b)) h.0 v.mine h.1 go, h.2)

  pub owns_left : (v : MarksView) (h : Handle) → Owns v h → lists a h.slot ≡ true → lists b h.slot ≡ false → Owns (marks.left_of (neither a b) (lists b) v) h
  owns_left v m h l r =
      let s = ap (λ (k : Handle). k.slot) h.2 in
      let stay = both (neither a b h.0.node.slot) (not (lists b h.0.node.slot)) false true (ap (neither a b) s ∙ on_left a b m.slot l) (ap (λ x. not (lists b x)) s ∙ ap not r) refl in
      (h.0, filter_member (stays marked.ways (neither a b) (lists b)) h.0 v.own h.1 stay, h.2)

  pub owns_right : (v : MarksView) (h : Handle) → Owns v h → lists b h.slot ≡ true → Owns (marks.right_of (neither a b) (lists b) v) h
  owns_right v m h r =
      let s = ap (λ (k : Handle). k.slot) h.2 in
      let go = both (neither a b h.0.node.slot) (lists b h.0.node.slot) false true (ap (neither a b) s ∙ on_right a b m.slot r) (ap (lists b) s ∙ r) refl in
      (h.0, filter_member (goes marked.ways (neither a b) (lists b)) h.0 v.own h.1 go, h.2)
