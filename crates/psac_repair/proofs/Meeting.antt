-- What both sides of a par leave of nodes and marks, joined.
use Rattle.std.proofs.Common.{◌≡◌, ◌⊎◌, ℕ, ◌+◌, ◌<◌, not, Bool, true, false, List, ◌++◌, map, Option, Some, refl, ap, sym, ◌∙◌, subst, inl, inr, ⊎_elim, arith}
use Rattle.std.specs.Prelude.{filter}
use Rattle.psac_ops.specs.declared.plain.Handle.{Handle}
use Rattle.psac_slots.specs.Branches.{stem}
use Rattle.psac_slots.specs.Handles.{Member}
use Rattle.psac_slots.specs.Claiming.{times}
use Rattle.psac_slots.specs.Divided.{stays, lends, comes_back, above as above_label}
use Rattle.psac_slots.proofs.Pairs.{member_left, member_right, member_cases, member_filter, filter_member, map_member, member_map}
use Rattle.psac_slots.proofs.Turns.{stem_push}
use Rattle.psac_laws.proofs.Places.{test_or, not_both, and_is, zero_or}
use Rattle.psac_marks.specs.declared.view.OwnView.{OwnView}
use Rattle.psac_marks.specs.declared.view.SharedView.{SharedView}
use Rattle.psac_marks.specs.declared.view.MarksView.{MarksView}
use Rattle.psac_marks.specs.Marked.{Place, places, own_place, shared_place, Has, ways, rights_of}
use Rattle.psac_marks.specs.Steps.{Lacks, joined, goes_over}
use Rattle.psac_marks.specs.Passes.{IsKept, IsBusy, United, slot_of}
use Rattle.psac_marks.proofs.Parts.{place_own, place_shared, place_cases}
use Rattle.psac_marks.proofs.Counted.{times_both, times_in, times_out}
use Rattle.psac_record.specs.Kept.{Kept, P}
use Rattle.psac_trace.specs.Fit.{Rooted}
use Rattle.psac_trace.proofs.Sums.{back_is, above_is}
use Rattle.psac_repair.specs.Planted.{slots, Children, NoneMarked, IsMade, Planted, Passed, Replanted, Halves}
use Rattle.psac_repair.proofs.Rooting.{joined_own}
use Rattle.psac_repair.proofs.Passing.{times_none, Here, node_at, own_has, lacks_not, kept_back, has_on, had_on}
use Rattle.psac_repair.proofs.Parting.{is_in, in_is, nodes_map, families_map, child_in, Sh, Ri, L, K, beside, apart_sides, left_not_shared, right_not_shared, dropped_not_shared, not_over, left_own, right_own, stays_left, goes_right, shared_has, planted_left, planted_right}

module _ (m : MarksView) (rooted : Rooted m) (us : List ℕ) (above : Option Handle) (n : Handle) (l r : Kept) (p : Planted m us above (P n l r)) where
  abbrev S : ℕ → Bool
  S = Sh m rooted us above n l r p

  abbrev T : ℕ → Bool
  T = Ri m rooted us above n l r p

  abbrev ML : MarksView
  ML = L m rooted us above n l r p

  abbrev MR : MarksView
  MR = K m rooted us above n l r p

  abbrev out : List ℕ
  out = beside m rooted us above n l r p

  pl : Planted ML out (Some n) l
  pl = planted_left m rooted us above n l r p

  pr : Planted MR out (Some n) r
  pr = planted_right m rooted us above n l r p

  not_is : (b : Bool) → not b ≡ true → b ≡ false
  not_is true e = absurd cc
  not_is false e = refl

  -- what the pass had the left side has, or the right side's record
  has_left : (x : ℕ) → Has (places m) x → Has (places ML) x ⊎ Member x (slots r)
  has_left x h =
      elim (test_or (S x)) [
        | inl t ↦ (let s = shared_has m rooted us above n l r p x h t in inl (shared_place s.0, place_shared ML s.0 s.1, s.2))
        | inr t ↦
            ⊎_elim
            (λ (q : (o : OwnView) × Member o m.own × (own_place m.claims.branch o ≡ h.0)).
            let e : q.0.node.slot ≡ x = ap (λ (z : Place). z.node.slot) q.2 ∙ h.2 in
            elim (test_or (T x)) [
              | inl g ↦ inr (in_is x (slots r) g)
              | inr g ↦ inl (own_place ML.claims.branch q.0, place_own ML q.0 (stays_left m rooted us above n l r p q.0 q.1 (ap S e ∙ t) (ap T e ∙ g)), e)
            ])
            (λ (q : (s : SharedView) × Member s m.shared × (shared_place s ≡ h.0)).
            inl (shared_place q.0, place_shared ML q.0 (member_left q.0 m.shared (map (ways.lend m.claims.branch) (filter (lends ways S T) m.own)) q.1), ap (λ (z : Place). z.node.slot) q.2 ∙ h.2))
            (place_cases m h.0 h.1)
      ]

  -- and the right side has it, or the left side alone
  has_right : (x : ℕ) → Has (places m) x → Has (places MR) x ⊎ ((o : OwnView) × Member o ML.own × (o.node.slot ≡ x))
  has_right x h =
      elim (test_or (S x)) [
        | inl t ↦ (let s = shared_has m rooted us above n l r p x h t in inl (shared_place s.0, place_shared MR s.0 s.1, s.2))
        | inr t ↦
            ⊎_elim
            (λ (q : (o : OwnView) × Member o m.own × (own_place m.claims.branch o ≡ h.0)).
            let e : q.0.node.slot ≡ x = ap (λ (z : Place). z.node.slot) q.2 ∙ h.2 in
            elim (test_or (T x)) [
              | inl g ↦ inl (own_place MR.claims.branch q.0, place_own MR q.0 (goes_right m rooted us above n l r p q.0 q.1 (in_is q.0.node.slot (slots r) (ap T e ∙ g))), e)
              | inr g ↦ inr (q.0, stays_left m rooted us above n l r p q.0 q.1 (ap S e ∙ t) (ap T e ∙ g), e)
            ])
            (λ (q : (s : SharedView) × Member s m.shared × (shared_place s ≡ h.0)).
            inl (shared_place q.0, place_shared MR q.0 (member_left q.0 m.shared (map (ways.lend m.claims.branch) (filter (lends ways S T) m.own)) q.1), ap (λ (z : Place). z.node.slot) q.2 ∙ h.2))
            (place_cases m h.0 h.1)
      ]

  module _ (a b j : MarksView) (pa : Passed ML a out (slots l)) (pb : Passed MR b out (slots r)) (is : j ≡ joined a b) (un : United a b j) where
    abbrev lent_own : List OwnView
    lent_own = filter (lends ways S T) m.own

    stem_is : stem a.claims.branch ≡ m.claims.branch
    stem_is = ap stem pa.branch ∙ stem_push m.claims.branch false

    own_is : j.own ≡ (a.own ++ b.own) ++ map ways.back (map (ways.lend m.claims.branch) lent_own)
    own_is = joined_own m rooted S T a b j pa.branch pa.shared is

    from_left : (o : OwnView) → Member o a.own → Member o j.own
    from_left o i = subst (Member o) (sym own_is) (member_left o (a.own ++ b.own) (map ways.back (map (ways.lend m.claims.branch) lent_own)) (member_left o a.own b.own i))

    from_right : (o : OwnView) → Member o b.own → Member o j.own
    from_right o i = subst (Member o) (sym own_is) (member_left o (a.own ++ b.own) (map ways.back (map (ways.lend m.claims.branch) lent_own)) (member_right o a.own b.own i))

    from_lent : (o : OwnView) → Member o m.own → S o.node.slot ≡ true → Member o j.own
    from_lent o i t =
        subst (Member o) (sym own_is)
        (member_right o (a.own ++ b.own) (map ways.back (map (ways.lend m.claims.branch) lent_own))
        (map_member ways.back (ways.lend m.claims.branch o) (map (ways.lend m.claims.branch) lent_own)
        (map_member (ways.lend m.claims.branch) o lent_own (filter_member (lends ways S T) o m.own i t))))

    record Lent (o : OwnView) : Type 0 where
      pub old : Member o m.own
      pub shared : S o.node.slot ≡ true

    joined_cases : (o : OwnView) → Member o j.own → Member o a.own ⊎ (Member o b.own ⊎ Lent o)
    joined_cases o i =
        ⊎_elim
        (λ (c : Member o (a.own ++ b.own)). ⊎_elim (λ (d : Member o a.own). inl d) (λ (d : Member o b.own). inr (inl d)) (member_cases o a.own b.own c))
        (λ (c : Member o (map ways.back (map (ways.lend m.claims.branch) lent_own))).
        let q = member_map ways.back o (map (ways.lend m.claims.branch) lent_own) c in
        let s = member_map (ways.lend m.claims.branch) q.0 lent_own q.1 in
        let f = member_filter (lends ways S T) s.0 m.own s.1 in
        let e : s.0 ≡ o = ap ways.back s.2 ∙ q.2 in
        inr (inr (record { old = subst (λ z. Member z m.own) e f.0; shared = subst (λ (z : OwnView). S z.node.slot ≡ true) e f.1 })))
        (member_cases o (a.own ++ b.own) (map ways.back (map (ways.lend m.claims.branch) lent_own)) (subst (Member o) own_is i))

    -- what one side owns the other lacks
    right_lacks : (x : ℕ) → Here a x → Lacks b x
    right_lacks x h = subst (Lacks b) h.slot (un.left_alone h.own h.is)

    left_lacks : (x : ℕ) → Here b x → Lacks a x
    left_lacks x h = subst (Lacks a) h.slot (un.right_alone h.own h.is)

    right_has_old : (x : ℕ) → Member x (slots r) → Has (places b) x
    right_has_old x i = has_on MR b out (slots r) pb x (own_has MR x (node_at MR (Some n) r pr.nodes x i))

    left_has_old : (x : ℕ) → Member x (slots l) → Has (places a) x
    left_has_old x i = has_on ML a out (slots l) pa x (own_has ML x (node_at ML (Some n) l pl.nodes x i))

    left_only : (x : ℕ) → (o : OwnView) × Member o ML.own × (o.node.slot ≡ x) → Has (places a) x
    left_only x o = (own_place a.claims.branch o.0, place_own a o.0 (pa.keeps o.0 o.1), o.2)

    -- what is new to a side was new to both
    new_first : (x : ℕ) → Lacks b x → Lacks ML x → Lacks m x
    new_first x lb k e i q =
        ⊎_elim (λ (h : Has (places ML) x). lacks_not ML x k h) (λ (h : Member x (slots r)). lacks_not b x lb (right_has_old x h)) (has_left x (e, i, q))

    new_second : (x : ℕ) → Lacks a x → Lacks MR x → Lacks m x
    new_second x la k e i q =
        ⊎_elim (λ (h : Has (places MR) x). lacks_not MR x k h) (λ (h : (o : OwnView) × Member o ML.own × (o.node.slot ≡ x)). lacks_not a x la (left_only x h)) (has_right x (e, i, q))

    abbrev below : List ℕ
    below = slots l ++ slots r

    sum_dropped : (x : ℕ) → times x ML.dropped + times x MR.dropped ≡ times x m.dropped
    sum_dropped x =
        elim (test_or (goes_over S T m x)) [
          | inl t ↦ (let c = times_out (λ z. not (goes_over S T m z)) x m.dropped (ap not t) in let d = times_in (goes_over S T m) x m.dropped t in omega (arith, c, d))
          | inr t ↦ (let c = times_in (λ z. not (goes_over S T m z)) x m.dropped (ap not t) in let d = times_out (goes_over S T m) x m.dropped t in omega (arith, c, d))
        ]

    dropped_is : (x : ℕ) → times x j.dropped ≡ times x a.dropped + times x b.dropped
    dropped_is x = ap (λ (z : MarksView). times x z.dropped) is ∙ times_both x a.dropped b.dropped

    marked_is : (x : ℕ) → times x j.marked ≡ times x a.marked + times x b.marked
    marked_is x = ap (λ (z : MarksView). times x z.marked) is ∙ times_both x a.marked b.marked

    busy_left : (x : ℕ) → goes_over S T m x ≡ false → IsBusy m x → IsBusy ML x
    busy_left x t (inl i) = inl (let c = times_in (λ z. not (goes_over S T m z)) x m.marked (ap not t) in omega (arith, c, i))
    busy_left x t (inr i) = inr (let c = times_in (λ z. not (goes_over S T m z)) x (m.busy ++ m.marked) (ap not t) in let d = times_both x m.busy m.marked in omega (arith, c, d, i))

    busy_joined : (x : ℕ) → IsBusy a x → IsBusy j x
    busy_joined x h =
        subst (λ z. IsBusy z x) (sym is) (⊎_elim
        (λ (i : 0 < times x a.marked). inl (let c = times_both x a.marked b.marked in omega (arith, c, i)))
        (λ (i : 0 < times x a.busy). inr (let c = times_both x a.busy b.busy in omega (arith, c, i)))
        h)

    in_first : (x : ℕ) → Member x (slots l) → Member x below
    in_first x i = member_left x (slots l) (slots r) i

    in_second : (x : ℕ) → Member x (slots r) → Member x below
    in_second x i = member_right x (slots l) (slots r) i

    pub passed_joined : Passed m j out below
    passed_joined =
        record {
          made = pa.made ++ pb.made;
          gone = pa.gone ++ pb.gone;
          raised = pa.raised ++ pb.raised;
          branch = ap (λ (z : MarksView). z.claims.branch) is ∙ stem_is;
          shared = ap (λ (z : MarksView). z.shared) is
              ∙ ap (λ c. filter (above_label ways c) a.shared) stem_is
              ∙ ap (filter (above_label ways m.claims.branch)) pa.shared
              ∙ above_is ways S T (rights_of m) rooted.labels;
          keeps = λ o i.
              elim (test_or (S o.node.slot)) [
                | inl t ↦ from_lent o i t
                | inr t ↦
                    elim (test_or (T o.node.slot)) [
                      | inl g ↦ from_right o (pb.keeps o (goes_right m rooted us above n l r p o i (in_is o.node.slot (slots r) g)))
                      | inr g ↦ from_left o (pa.keeps o (stays_left m rooted us above n l r p o i t g))
                    ]
              ];
          own = λ o i.
              ⊎_elim
              (λ (c : Member o a.own). ⊎_elim (λ (d : Member o ML.own). inl (left_own m rooted us above n l r p o d)) (λ (d : Member o pa.made). inr (member_left o pa.made pb.made d)) (pa.own o c))
              (λ (c : Member o b.own ⊎ Lent o). ⊎_elim
              (λ (d : Member o b.own). ⊎_elim (λ (e : Member o MR.own). inl (right_own m rooted us above n l r p o e).0) (λ (e : Member o pb.made). inr (member_right o pa.made pb.made e)) (pb.own o d))
              (λ (d : Lent o). inl d.old)
              c)
              (joined_cases o i);
          has = λ o i. ⊎_elim (λ (c : Member o pa.made). from_left o (pa.has o c)) (λ (c : Member o pb.made). from_right o (pb.has o c)) (member_cases o pa.made pb.made i);
          new = λ o i.
              ⊎_elim
              (λ (c : Member o pa.made). new_first o.node.slot (un.left_alone o (pa.has o c)) (pa.new o c))
              (λ (c : Member o pb.made). new_second o.node.slot (un.right_alone o (pb.has o c)) (pb.new o c))
              (member_cases o pa.made pb.made i);
          below = λ o q i e.
              ⊎_elim
              (λ (c : Member o pa.made). ⊎_elim (λ (d : Member q (slots l)). inl (in_first q d)) (λ (d : IsMade pa.made q). inr (d.0, member_left d.0 pa.made pb.made d.1, d.2)) (pa.below o q c e))
              (λ (c : Member o pb.made). ⊎_elim (λ (d : Member q (slots r)). inl (in_second q d)) (λ (d : IsMade pb.made q). inr (d.0, member_right d.0 pa.made pb.made d.1, d.2)) (pb.below o q c e))
              (member_cases o pa.made pb.made i);
          dropped = λ x.
              let c = dropped_is x in
              let d = pa.dropped x in
              let e = pb.dropped x in
              let f = sum_dropped x in
              let g = times_both x pa.gone pb.gone in
              omega (arith, c, d, e, f, g);
          gone_is = λ x i. ⊎_elim (λ (c : Member x pa.gone). in_first x (pa.gone_is x c)) (λ (c : Member x pb.gone). in_second x (pb.gone_is x c)) (member_cases x pa.gone pb.gone i);
          marked = λ x free.
              let t = not_over m rooted us above n l r p x (λ i. free (in_second x i)) in
              let c = marked_is x in
              let d = pa.marked x (λ i. free (in_first x i)) in
              let e = pb.marked x (λ i. free (in_second x i)) in
              let f = times_in (λ z. not (goes_over S T m z)) x m.marked (ap not t) in
              let g = times_out (goes_over S T m) x m.marked t in
              let h = times_both x pa.raised pb.raised in
              omega (arith, c, d, e, f, g, h);
          raised_is = λ x i.
              ⊎_elim
              (λ (c : Member x pa.raised). ⊎_elim (λ (d : Member x out). inl d) (λ (d : Member x (slots l)). inr (in_first x d)) (pa.raised_is x c))
              (λ (c : Member x pb.raised). ⊎_elim (λ (d : Member x out). inl d) (λ (d : Member x (slots r)). inr (in_second x d)) (pb.raised_is x c))
              (member_cases x pa.raised pb.raised i);
          busy = λ x free h.
              busy_joined x (pa.busy x (λ i. free (in_first x i)) (busy_left x (not_over m rooted us above n l r p x (λ i. free (in_second x i))) h));
        }

    -- with the records that stand now
    module _ (u w : Kept) (xa : Replanted ML a out (Some n) l u) (xb : Replanted MR b out (Some n) r w) where
      first_here : (x : ℕ) → Member x (slots u) → Here a x
      first_here = node_at a (Some n) u xa.nodes

      second_here : (x : ℕ) → Member x (slots w) → Here b x
      second_here = node_at b (Some n) w xb.nodes

      first_not_right : (x : ℕ) → Member x (slots u) → Member x (slots r) → ⊥
      first_not_right x i k = lacks_not b x (right_lacks x (first_here x i)) (right_has_old x k)

      second_not_left : (x : ℕ) → Member x (slots w) → Member x (slots l) → ⊥
      second_not_left x i k = lacks_not a x (left_lacks x (second_here x i)) (left_has_old x k)

      kept_from : (x : ℕ) → IsKept j x → IsKept a x × IsKept b x
      kept_from x k = let c = dropped_is x in (omega (arith, c, k), omega (arith, c, k))

      first_kept : (x : ℕ) → Member x (slots u) → IsKept a x → IsKept j x
      first_kept x i k =
          let c = dropped_is x in
          let d = pb.dropped x in
          let e = times_none x pb.gone (λ g. first_not_right x i (pb.gone_is x g)) in
          let f = times_out (goes_over S T m) x m.dropped (not_over m rooted us above n l r p x (first_not_right x i)) in
          omega (arith, c, d, e, f, k)

      -- nothing that the left side dropped before is the right side's
      second_not_dropped : (x : ℕ) → Member x (slots w) → times x ML.dropped ≡ 0
      second_not_dropped x i =
          elim (zero_or (times x ML.dropped)) [
            | inl z ↦ z
            | inr z ↦
                (let more : 0 < times x m.dropped = (let c = sum_dropped x in omega (arith, c, z)) in
                let o = rooted.dropped x more in
                let s : S o.0.node.slot ≡ false = ap S o.2 ∙ dropped_not_shared m rooted us above n l r p x more in
                elim (test_or (T o.0.node.slot)) [
                  | inl g ↦
                      (let h = node_at m (Some n) r p.nodes.2 x (in_is x (slots r) (ap T (sym o.2) ∙ g)) in
                      let k = h.kept in
                      absurd (omega (arith, more, k)))
                  | inr g ↦ absurd (lacks_not a x (left_lacks x (second_here x i)) (left_only x (o.0, stays_left m rooted us above n l r p o.0 o.1 s g, o.2)))
                ])
          ]

      second_kept : (x : ℕ) → Member x (slots w) → IsKept b x → IsKept j x
      second_kept x i k =
          let c = dropped_is x in
          let d = pa.dropped x in
          let e = times_none x pa.gone (λ g. second_not_left x i (pa.gone_is x g)) in
          let f = second_not_dropped x i in
          omega (arith, c, d, e, f, k)

      -- the parent of a node that was there before and isn't dropped was there too
      parent_had : (o : OwnView) (x : ℕ) → Member o m.own → o.parent ≡ Some x → IsKept m o.node.slot → Lacks m x → ⊥
      parent_had o x i e k la = lacks_not m x la (rooted.kept o x i k e).1

      old_kept : (x : ℕ) → IsKept j x → IsKept m x
      old_kept x k = kept_back m j out below passed_joined x k

      first_old : (x : ℕ) → Member x (slots u) → Member x (slots l) ⊎ Lacks m x
      first_old x i = ⊎_elim (λ (c : Member x (slots l)). inl c) (λ (c : Lacks ML x). inr (new_first x (right_lacks x (first_here x i)) c)) (xa.covers x i)

      second_old : (x : ℕ) → Member x (slots w) → Member x (slots r) ⊎ Lacks m x
      second_old x i = ⊎_elim (λ (c : Member x (slots r)). inl c) (λ (c : Lacks MR x). inr (new_second x (left_lacks x (second_here x i)) c)) (xb.covers x i)

      -- a child of a node on one side that was there before is that side's too
      first_child : (x : ℕ) (o : OwnView) → Member x (slots u) → Member o m.own → o.parent ≡ Some x → IsKept m o.node.slot → Member o.node.slot (slots l)
      first_child x o i q e k =
          ⊎_elim (λ (c : Member x (slots l)). child_in m l p.families.1 x c o q e k) (λ (c : Lacks m x). absurd (parent_had o x q e k c)) (first_old x i)

      second_child : (x : ℕ) (o : OwnView) → Member x (slots w) → Member o m.own → o.parent ≡ Some x → IsKept m o.node.slot → Member o.node.slot (slots r)
      second_child x o i q e k =
          ⊎_elim (λ (c : Member x (slots r)). child_in m r p.families.2 x c o q e k) (λ (c : Lacks m x). absurd (parent_had o x q e k c)) (second_old x i)

      first_families : (x : ℕ) (ys : List ℕ) → Member x (slots u) → Children a x ys → Children j x ys
      first_families x ys i c o q e k =
          ⊎_elim
          (λ (d : Member o a.own). c o d e (kept_from o.node.slot k).0)
          (λ (d : Member o b.own ⊎ Lent o). absurd (⊎_elim
          (λ (f : Member o b.own). ⊎_elim
          (λ (g : Member o MR.own).
          let h = right_own m rooted us above n l r p o g in
          apart_sides m rooted us above n l r p o.node.slot (first_child x o i h.0 e (old_kept o.node.slot k)) h.1)
          (λ (g : Member o pb.made). ⊎_elim
          (λ (h : Member x (slots r)). first_not_right x i h)
          (λ (h : IsMade pb.made x). lacks_not b x (right_lacks x (first_here x i)) (own_place b.claims.branch h.0, place_own b h.0 (pb.has h.0 h.1), h.2))
          (pb.below o x g e))
          (pb.own o f))
          (λ (f : Lent o). not_both f.shared (left_not_shared m rooted us above n l r p o.node.slot (first_child x o i f.old e (old_kept o.node.slot k))))
          d))
          (joined_cases o q)

      second_families : (x : ℕ) (ys : List ℕ) → Member x (slots w) → Children b x ys → Children j x ys
      second_families x ys i c o q e k =
          ⊎_elim
          (λ (d : Member o a.own). absurd (⊎_elim
          (λ (g : Member o ML.own).
          let h = member_filter (stays ways S T) o m.own g in
          let f = and_is (not (S o.node.slot)) (not (T o.node.slot)) h.1 in
          not_both (is_in o.node.slot (slots r) (second_child x o i h.0 e (old_kept o.node.slot k))) (not_is (T o.node.slot) f.1))
          (λ (g : Member o pa.made). ⊎_elim
          (λ (h : Member x (slots l)). second_not_left x i h)
          (λ (h : IsMade pa.made x). lacks_not a x (left_lacks x (second_here x i)) (own_place a.claims.branch h.0, place_own a h.0 (pa.has h.0 h.1), h.2))
          (pa.below o x g e))
          (pa.own o d)))
          (λ (d : Member o b.own ⊎ Lent o). ⊎_elim
          (λ (f : Member o b.own). c o f e (kept_from o.node.slot k).1)
          (λ (f : Lent o). absurd (not_both f.shared (right_not_shared m rooted us above n l r p o.node.slot (second_child x o i f.old e (old_kept o.node.slot k)))))
          d)
          (joined_cases o q)

      left_had : (x : ℕ) → 0 < times x a.marked → Has (places a) x
      left_had = had_on ML a out (slots l) pa (λ x i. (pl.known x i).0) (λ x i. own_has ML x (node_at ML (Some n) l pl.nodes x i)) pl.had

      right_had : (x : ℕ) → 0 < times x b.marked → Has (places b) x
      right_had = had_on MR b out (slots r) pb (λ x i. (pr.known x i).0) (λ x i. own_has MR x (node_at MR (Some n) r pr.nodes x i)) pr.had

      first_unmarked : NoneMarked j (slots u)
      first_unmarked x i =
          let c = marked_is x in
          let d = xa.unmarked x i in
          let e : times x b.marked ≡ 0 = elim (zero_or (times x b.marked)) [ inl z ↦ z | inr z ↦ absurd (lacks_not b x (right_lacks x (first_here x i)) (right_had x (omega (arith, z)))) ] in
          omega (arith, c, d, e)

      second_unmarked : NoneMarked j (slots w)
      second_unmarked x i =
          let c = marked_is x in
          let d = xb.unmarked x i in
          let e : times x a.marked ≡ 0 = elim (zero_or (times x a.marked)) [ inl z ↦ z | inr z ↦ absurd (lacks_not a x (left_lacks x (second_here x i)) (left_had x (omega (arith, z)))) ] in
          omega (arith, c, d, e)

      pub halves_joined : Halves m j us n l r u w
      halves_joined =
          record {
            passed = passed_joined;
            nodes = (
              nodes_map a j (Some n) u (λ over h i s. (from_left (record { node = h; parent = slot_of over }) s.0, first_kept h.slot i s.1)) xa.nodes,
              nodes_map b j (Some n) w (λ over h i s. (from_right (record { node = h; parent = slot_of over }) s.0, second_kept h.slot i s.1)) xb.nodes,
            );
            families = (families_map a j u first_families xa.families, families_map b j w second_families xb.families);
            once = (xa.once, xb.once);
            apart = λ x i k. lacks_not b x (right_lacks x (first_here x i)) (own_has b x (second_here x k));
            tops_are = (xa.tops_are, xb.tops_are);
            unmarked = (first_unmarked, second_unmarked);
            first_covers = first_old;
            second_covers = second_old;
          }
