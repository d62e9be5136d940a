-- The nodes of a pass between two calls, on both sides of a par and after the join.
use Rattle.std.proofs.Common.{◌≡◌, ℕ, ◌+◌, ◌<◌, ◌==◌, Bool, true, false, not, List, [], ◌∷◌, ◌++◌, map, length, Option, Some, refl, ap, sym, ◌∙◌, subst, inl, inr, ⊎_elim, arith, length-append}
use Rattle.std.specs.Prelude.{filter}
use Rattle.psac_ops.specs.declared.plain.Handle.{Handle}
use Rattle.psac_slots.specs.Branches.{stem}
use Rattle.psac_slots.specs.Handles.{Member}
use Rattle.psac_slots.specs.Claiming.{times}
use Rattle.psac_slots.specs.Divided.{stays, lends, comes_back}
use Rattle.psac_slots.proofs.Pairs.{member_left, member_cases, member_map, member_filter}
use Rattle.psac_slots.proofs.Turns.{stem_push}
use Rattle.psac_laws.proofs.Places.{test_or, not_both, and_is, nat_is, zero_or}
use Rattle.psac_marks.specs.declared.view.OwnView.{OwnView}
use Rattle.psac_marks.specs.declared.view.SharedView.{SharedView}
use Rattle.psac_marks.specs.declared.view.MarksView.{MarksView}
use Rattle.psac_marks.specs.Marked.{Place, places, own_place, shared_place, Has, HasOwn, ways, rights_of}
use Rattle.psac_marks.specs.Steps.{Lacks, left_of, joined, goes_over, now_shared}
use Rattle.psac_marks.specs.Passes.{IsKept, IsDropped, United}
use Rattle.psac_marks.proofs.Parts.{place_own, place_shared, place_cases}
use Rattle.psac_marks.proofs.Counted.{times_both}
use Rattle.psac_record.specs.Kept.{Kept, P}
use Rattle.psac_trace.specs.Fit.{Rooted}
use Rattle.psac_trace.proofs.Sums.{back_is}
use Rattle.psac_repair.specs.Planted.{slots, Planted, Passed}
use Rattle.psac_repair.proofs.Passing.{in_or_out, node_at, lacks_not, kept_on, kept_back, has_on}
use Rattle.psac_repair.proofs.Parting.{is_in, in_is, filter_some, child_in, Sh, Ri, L, K, apart_sides, left_not_shared, right_not_shared, dropped_not_shared, outside_shared, over_right, right_over, right_own, stays_left, goes_right, shared_has, left_kept, right_kept, left_kept_back, right_kept_back, beside}

not_is : (b : Bool) → not b ≡ true → b ≡ false
not_is true e = absurd cc
not_is false e = refl

-- the own nodes of two sides joined: those of both, and those that were lent come back
pub joined_own : (m : MarksView) → Rooted m → (S T : ℕ → Bool) (a b j : MarksView) → a.claims.branch ≡ (left_of S T m).claims.branch
    → a.shared ≡ (left_of S T m).shared → j ≡ joined a b
    → j.own ≡ (a.own ++ b.own) ++ map ways.back (map (ways.lend m.claims.branch) (filter (lends ways S T) m.own))
joined_own m rooted S T a b j branch shared is =
    ap (λ (z : MarksView). z.own) is
    ∙ ap (λ c. (a.own ++ b.own) ++ map ways.back (filter (comes_back ways c) a.shared)) (ap stem branch ∙ stem_push m.claims.branch false)
    ∙ ap (λ c. (a.own ++ b.own) ++ map ways.back (filter (comes_back ways m.claims.branch) c)) shared
    ∙ ap (λ c. (a.own ++ b.own) ++ map ways.back c) (back_is ways S T (rights_of m) rooted.labels (λ o. refl))

module _ (m : MarksView) (rooted : Rooted m) (us : List ℕ) (above : Option Handle) (n : Handle) (l k : Kept) (p : Planted m us above (P n l k)) where
  abbrev S : ℕ → Bool
  S = Sh m rooted us above n l k p

  abbrev T : ℕ → Bool
  T = Ri m rooted us above n l k p

  abbrev ML : MarksView
  ML = L m rooted us above n l k p

  abbrev MR : MarksView
  MR = K m rooted us above n l k p

  abbrev lent_list : List SharedView
  lent_list = map (ways.lend m.claims.branch) (filter (lends ways S T) m.own)

  told_kept : (e : SharedView) → Member e (now_shared S T m) → IsKept m e.node.slot
  told_kept e i =
      ⊎_elim
      (λ (j : Member e m.shared). rooted.shared e j)
      (λ (j : Member e lent_list).
      let q = member_map (ways.lend m.claims.branch) e (filter (lends ways S T) m.own) j in
      let o = member_filter (lends ways S T) q.0 m.own q.1 in
      subst (IsKept m) (ap (λ (z : SharedView). z.node.slot) q.2) (shared_kept q.0.node.slot o.1))
      (member_cases e m.shared lent_list i)
    where
      shared_kept : (x : ℕ) → S x ≡ true → IsKept m x
      shared_kept x t = nat_is (times x m.dropped) 0 (and_is (times x m.dropped == 0) _ t).0

  told_labels : (c : Bool) (e : SharedView) → Member e (now_shared S T m) → length e.label < length (m.claims.branch ++ c ∷ [])
  told_labels c e i =
      let long = length-append m.claims.branch (c ∷ []) in
      ⊎_elim
      (λ (j : Member e m.shared). let h = rooted.labels e j in omega (arith, long, h))
      (λ (j : Member e lent_list).
      let q = member_map (ways.lend m.claims.branch) e (filter (lends ways S T) m.own) j in
      let h : length m.claims.branch ≡ length e.label = ap (λ (z : SharedView). length z.label) q.2 in
      omega (arith, long, h))
      (member_cases e m.shared lent_list i)

  has_shared : (u : MarksView) → u.shared ≡ now_shared S T m → (e : SharedView) → Member e m.shared → (x : ℕ) → e.node.slot ≡ x → Has (places u) x
  has_shared u is e i x s = (shared_place e, place_shared u e (subst (Member e) (sym is) (member_left e m.shared lent_list i)), s)

  has_both : (u : MarksView) → u.shared ≡ now_shared S T m → (x : ℕ) → Has (places m) x → S x ≡ true → Has (places u) x
  has_both u is x h t = let s = shared_has m rooted us above n l k p x h t in (shared_place s.0, place_shared u s.0 (subst (Member s.0) (sym is) s.1), s.2)

  has_left : (x : ℕ) → Has (places m) x → (Member x (slots k) → ⊥) → Has (places ML) x
  has_left x h out =
      elim (test_or (S x)) [
        | inl t ↦ has_both ML refl x h t
        | inr t ↦
            ⊎_elim
            (λ (q : (o : OwnView) × Member o m.own × (own_place m.claims.branch o ≡ h.0)).
            let e : q.0.node.slot ≡ x = ap (λ (z : Place). z.node.slot) q.2 ∙ h.2 in
            elim (test_or (T x)) [
              | inl g ↦ absurd (out (in_is x (slots k) g))
              | inr g ↦ (own_place ML.claims.branch q.0, place_own ML q.0 (stays_left m rooted us above n l k p q.0 q.1 (ap S e ∙ t) (ap T e ∙ g)), e)
            ])
            (λ (q : (s : SharedView) × Member s m.shared × (shared_place s ≡ h.0)). has_shared ML refl q.0 q.1 x (ap (λ (z : Place). z.node.slot) q.2 ∙ h.2))
            (place_cases m h.0 h.1)
      ]

  has_right : (x : ℕ) → Has (places m) x → IsKept m x → (Member x (slots l) → ⊥) → Has (places MR) x
  has_right x h kept out =
      elim (test_or (S x)) [
        | inl t ↦ has_both MR refl x h t
        | inr t ↦
            ⊎_elim
            (λ (q : (o : OwnView) × Member o m.own × (own_place m.claims.branch o ≡ h.0)).
            let e : q.0.node.slot ≡ x = ap (λ (z : Place). z.node.slot) q.2 ∙ h.2 in
            elim (in_or_out x (slots k)) [
              | inl g ↦ (own_place MR.claims.branch q.0, place_own MR q.0 (goes_right m rooted us above n l k p q.0 q.1 (subst (λ z. Member z (slots k)) (sym e) g)), e)
              | inr g ↦ absurd (not_both (outside_shared m rooted us above n l k p x kept out g) t)
            ])
            (λ (q : (s : SharedView) × Member s m.shared × (shared_place s ≡ h.0)). has_shared MR refl q.0 q.1 x (ap (λ (z : Place). z.node.slot) q.2 ∙ h.2))
            (place_cases m h.0 h.1)
      ]

  pub rooted_left : Rooted ML
  rooted_left =
      record {
        kept = λ c q i h e.
            let f = member_filter (stays ways S T) c m.own i in
            let b = and_is (not (S c.node.slot)) (not (T c.node.slot)) f.1 in
            let stay : (Member c.node.slot (slots k) → ⊥) = λ a. not_both (is_in c.node.slot (slots k) a) (not_is (T c.node.slot) b.1) in
            let was = left_kept_back m rooted us above n l k p c.node.slot stay h in
            let up = rooted.kept c q f.0 was e in
            (left_kept m rooted us above n l k p q up.0, has_left q up.1 (λ j. stay (child_in m k p.families.2 q j c f.0 e was)));
        dropped = λ x d.
            let f = filter_some (λ z. not (goes_over S T m z)) x m.dropped d in
            let o = rooted.dropped x f.1 in
            let gone = dropped_not_shared m rooted us above n l k p x f.1 in
            elim (test_or (T x)) [
              | inl g ↦ absurd (not_both (right_over m rooted us above n l k p x (in_is x (slots k) g)) (not_is (goes_over S T m x) f.0))
              | inr g ↦ (o.0, stays_left m rooted us above n l k p o.0 o.1 (ap S o.2 ∙ gone) (ap T o.2 ∙ g), o.2)
            ];
        shared = λ e i. left_kept m rooted us above n l k p e.node.slot (told_kept e i);
        labels = told_labels false;
      }

  pub rooted_right : Rooted MR
  rooted_right =
      record {
        kept = λ c q i h e.
            let f = right_own m rooted us above n l k p c i in
            let was = right_kept_back m rooted us above n l k p c.node.slot f.1 h in
            let up = rooted.kept c q f.0 was e in (
              right_kept m rooted us above n l k p q up.0,
              has_right q up.1 up.0 (λ j. apart_sides m rooted us above n l k p c.node.slot (child_in m l p.families.1 q j c f.0 e was) f.1),
            );
        dropped = λ x d.
            let f = filter_some (goes_over S T m) x m.dropped d in
            let i = over_right m rooted us above n l k p x f.0 in
            let h = node_at m (Some n) k p.nodes.2 x i in
            (h.own, goes_right m rooted us above n l k p h.own h.is (subst (λ z. Member z (slots k)) (sym h.slot) i), h.slot);
        shared = λ e i. right_kept m rooted us above n l k p e.node.slot (told_kept e i);
        labels = told_labels true;
      }

  -- and joined
  module _ (a b j : MarksView) (pa : Passed ML a (beside m rooted us above n l k p) (slots l)) (pj : Passed m j (beside m rooted us above n l k p) (slots l ++ slots k)) (ra : Rooted a) (rb : Rooted b) (is : j ≡ joined a b) (un : United a b j) (gone : (x : ℕ) → IsDropped j x → HasOwn j.own x) (held : (e : SharedView) → Member e j.shared → IsKept j e.node.slot) where
    dropped_is : (x : ℕ) → times x j.dropped ≡ times x a.dropped + times x b.dropped
    dropped_is x = ap (λ (z : MarksView). times x z.dropped) is ∙ times_both x a.dropped b.dropped

    -- what one side has the other didn't drop
    kept_left : (x : ℕ) → Has (places a) x → IsKept a x → IsKept j x
    kept_left x h y =
        let d = dropped_is x in
        elim (zero_or (times x b.dropped)) [
          | inl z ↦ omega (arith, d, y, z)
          | inr z ↦ (let o = rb.dropped x (omega (arith, z)) in absurd (lacks_not a x (subst (Lacks a) o.2 (un.right_alone o.0 o.1)) h))
        ]

    kept_right : (x : ℕ) → Has (places b) x → IsKept b x → IsKept j x
    kept_right x h y =
        let d = dropped_is x in
        elim (zero_or (times x a.dropped)) [
          | inl z ↦ omega (arith, d, y, z)
          | inr z ↦ (let o = ra.dropped x (omega (arith, z)) in absurd (lacks_not b x (subst (Lacks b) o.2 (un.left_alone o.0 o.1)) h))
        ]

    abbrev lent_own : List OwnView
    lent_own = filter (lends ways S T) m.own

    own_is : j.own ≡ (a.own ++ b.own) ++ map ways.back (map (ways.lend m.claims.branch) lent_own)
    own_is = joined_own m rooted S T a b j pa.branch pa.shared is

    lent_was : (c : OwnView) → Member c (map ways.back (map (ways.lend m.claims.branch) lent_own)) → Member c m.own × (S c.node.slot ≡ true)
    lent_was c i =
        let q = member_map ways.back c (map (ways.lend m.claims.branch) lent_own) i in
        let s = member_map (ways.lend m.claims.branch) q.0 lent_own q.1 in
        let f = member_filter (lends ways S T) s.0 m.own s.1 in
        let e : s.0 ≡ c = ap ways.back s.2 ∙ q.2 in
        (subst (λ z. Member z m.own) e f.0, subst (λ (z : OwnView). S z.node.slot ≡ true) e f.1)

    lent_kept : (c : OwnView) (q : ℕ) → Member c m.own → S c.node.slot ≡ true → IsKept j c.node.slot → c.parent ≡ Some q → IsKept j q × Has (places j) q
    lent_kept c q i t h e =
        let was = kept_back m j (beside m rooted us above n l k p) (slots l ++ slots k) pj c.node.slot h in
        let up = rooted.kept c q i was e in
        let out : (Member q (slots l ++ slots k) → ⊥) = λ y. ⊎_elim
        (λ (z : Member q (slots l)). not_both t (left_not_shared m rooted us above n l k p c.node.slot (child_in m l p.families.1 q z c i e was)))
        (λ (z : Member q (slots k)). not_both t (right_not_shared m rooted us above n l k p c.node.slot (child_in m k p.families.2 q z c i e was)))
        (member_cases q (slots l) (slots k) y) in
        (kept_on m j (beside m rooted us above n l k p) (slots l ++ slots k) pj q out up.0, has_on m j (beside m rooted us above n l k p) (slots l ++ slots k) pj q up.1)

    pub rooted_joined : Rooted j
    rooted_joined =
        record {
          kept = λ c q i h e.
              let d = dropped_is c.node.slot in
              ⊎_elim
              (λ (x : Member c (a.own ++ b.own)).
              ⊎_elim
              (λ (y : Member c a.own). let up = ra.kept c q y (omega (arith, d, h)) e in (kept_left q up.1 up.0, un.has q (inl up.1)))
              (λ (y : Member c b.own). let up = rb.kept c q y (omega (arith, d, h)) e in (kept_right q up.1 up.0, un.has q (inr up.1)))
              (member_cases c a.own b.own x))
              (λ (x : Member c (map ways.back (map (ways.lend m.claims.branch) lent_own))). let y = lent_was c x in lent_kept c q y.0 y.1 h e)
              (member_cases c (a.own ++ b.own) (map ways.back (map (ways.lend m.claims.branch) lent_own)) (subst (Member c) own_is i));
          dropped = gone;
          shared = held;
          labels = λ e i. subst (λ z. length e.label < length z) (sym pj.branch) (rooted.labels e (subst (Member e) pj.shared i));
        }
