-- How the nodes and marks of both sides of a par are divided: what each side begins with.
use Rattle.std.proofs.Common.{◌≡◌, ◌⊎◌, ℕ, ◌<◌, ◌==◌, ◌&&◌, not, Bool, true, false, List, ◌∷◌, ◌++◌, map, Option, Some, refl, ap, sym, ◌∙◌, subst, inl, inr, ⊎_elim, arith}
use Rattle.std.specs.Prelude.{filter, ltb}
use Rattle.std.proofs.lemmas.Bool.{lt-ltb, ltb-true}
use Rattle.psac_ops.specs.declared.plain.Handle.{Handle}
use Rattle.psac_slots.specs.Handles.{Member}
use Rattle.psac_slots.specs.Claiming.{times}
use Rattle.psac_slots.specs.Divided.{stays, goes, lends}
use Rattle.psac_slots.proofs.Pairs.{member_left, member_right, member_cases, member_filter, filter_member, map_member}
use Rattle.psac_laws.proofs.Places.{nat_is, nat_same, not_true, test_or, not_both, and_is}
use Rattle.psac_marks.specs.declared.view.OwnView.{OwnView}
use Rattle.psac_marks.specs.declared.view.SharedView.{SharedView}
use Rattle.psac_marks.specs.declared.view.MarksView.{MarksView}
use Rattle.psac_marks.specs.Marked.{Place, places, own_place, shared_place, Has, ways}
use Rattle.psac_marks.specs.Steps.{left_of, right_of, goes_over, now_shared}
use Rattle.psac_marks.specs.Passes.{IsKept, IsDropped, Parted, slot_of}
use Rattle.psac_marks.proofs.Parts.{place_own, place_shared, place_cases}
use Rattle.psac_marks.proofs.Counted.{times_member, times_found, times_in, times_out}
use Rattle.psac_record.specs.Kept.{Kept, E, A, W, S, P, R}
use Rattle.psac_trace.specs.Fit.{Rooted}
use Rattle.psac_repair.specs.Marks.{Sits, Nodes}
use Rattle.psac_repair.specs.Planted.{slots, tops, Apart, Children, Families, Planted}
use Rattle.psac_repair.specs.Divided.{has_node, outside}
use Rattle.psac_repair.proofs.Passing.{top_in, node_at, own_has}

-- in a list, as a test
pub is_in : (x : ℕ) (xs : List ℕ) → Member x xs → ltb 0 (times x xs) ≡ true
is_in x xs i = lt-ltb 0 (times x xs) (let t = times_member x xs i in omega (arith, t))

pub in_is : (x : ℕ) (xs : List ℕ) → ltb 0 (times x xs) ≡ true → Member x xs
in_is x xs t = times_found x xs (ltb-true 0 (times x xs) t)

pub is_out : (x : ℕ) (xs : List ℕ) → (Member x xs → ⊥) → ltb 0 (times x xs) ≡ false
is_out x xs out = not_true (ltb 0 (times x xs)) (λ t. out (in_is x xs t))

-- a filter leaves nothing where nothing was
pub filter_none : (f : ℕ → Bool) (x : ℕ) (xs : List ℕ) → times x xs ≡ 0 → times x (filter f xs) ≡ 0
filter_none f x xs z = elim (test_or (f x)) [ inl t ↦ times_in f x xs t ∙ z | inr t ↦ times_out f x xs t ]

pub filter_some : (f : ℕ → Bool) (x : ℕ) (xs : List ℕ) → 0 < times x (filter f xs) → (f x ≡ true) × (0 < times x xs)
filter_some f x xs m =
    elim (test_or (f x)) [
      | inl t ↦ (t, let e = times_in f x xs t in omega (arith, e, m))
      | inr t ↦ (let e = times_out f x xs t in absurd (omega (arith, e, m)))
    ]

-- node by node
pub nodes_map : (m n : MarksView) (above : Option Handle) (k : Kept) → ((over : Option Handle) (h : Handle) → Member h.slot (slots k) → Sits m over h → Sits n over h) → Nodes m above k → Nodes n above k
nodes_map m n above E f ns = tt
nodes_map m n above (A h r) f ns = nodes_map m n above r f ns
nodes_map m n above (W h x r) f ns = nodes_map m n above r f ns
nodes_map m n above (S c t r) f ns = (
  f above c (inl refl) ns.0,
  nodes_map m n (Some c) t (λ o h i. f o h (inr (member_left h.slot (slots t) (slots r) i))) ns.1,
  nodes_map m n (Some c) r (λ o h i. f o h (inr (member_right h.slot (slots t) (slots r) i))) ns.2,
)
nodes_map m n above (P c t r) f ns = (
  f above c (inl refl) ns.0,
  nodes_map m n (Some c) t (λ o h i. f o h (inr (member_left h.slot (slots t) (slots r) i))) ns.1,
  nodes_map m n (Some c) r (λ o h i. f o h (inr (member_right h.slot (slots t) (slots r) i))) ns.2,
)
nodes_map m n above (R b t) f ns = (f above b.node (inl refl) ns.0, nodes_map m n (Some b.node) t (λ o h i. f o h (inr i)) ns.1)

pub families_map : (m n : MarksView) (k : Kept) → ((x : ℕ) (ys : List ℕ) → Member x (slots k) → Children m x ys → Children n x ys) → Families m k → Families n k
families_map m n E f fs = tt
families_map m n (A h r) f fs = families_map m n r f fs
families_map m n (W h x r) f fs = families_map m n r f fs
families_map m n (S c t r) f fs = (
  f c.slot (tops t ++ tops r) (inl refl) fs.0,
  families_map m n t (λ x ys i. f x ys (inr (member_left x (slots t) (slots r) i))) fs.1,
  families_map m n r (λ x ys i. f x ys (inr (member_right x (slots t) (slots r) i))) fs.2,
)
families_map m n (P c t r) f fs = (
  f c.slot (tops t ++ tops r) (inl refl) fs.0,
  families_map m n t (λ x ys i. f x ys (inr (member_left x (slots t) (slots r) i))) fs.1,
  families_map m n r (λ x ys i. f x ys (inr (member_right x (slots t) (slots r) i))) fs.2,
)
families_map m n (R b t) f fs = (f b.node.slot (tops t) (inl refl) fs.0, families_map m n t (λ x ys i. f x ys (inr i)) fs.1)

both_tops : (t r : Kept) (x : ℕ) → Member x (tops t ++ tops r) → Member x (slots t ++ slots r)
both_tops t r x i =
    ⊎_elim (λ (a : Member x (tops t)). member_left x (slots t) (slots r) (top_in t x a)) (λ (a : Member x (tops r)). member_right x (slots t) (slots r) (top_in r x a)) (member_cases x (tops t) (tops r) i)

-- a child of a node of the record, which isn't dropped, is the record's
pub child_in : (m : MarksView) (k : Kept) → Families m k → (x : ℕ) → Member x (slots k) → Children m x (slots k)
child_in m E f x i = absurd i
child_in m (A h r) f x i = child_in m r f x i
child_in m (W h v r) f x i = child_in m r f x i
child_in m (S n t r) f x (inl e) = λ o j p k. inr (both_tops t r o.node.slot (f.0 o j (p ∙ ap Some (sym e)) k))
child_in m (S n t r) f x (inr i) = λ o j p k.
    inr (⊎_elim
    (λ (a : Member x (slots t)). member_left o.node.slot (slots t) (slots r) (child_in m t f.1 x a o j p k))
    (λ (a : Member x (slots r)). member_right o.node.slot (slots t) (slots r) (child_in m r f.2 x a o j p k))
    (member_cases x (slots t) (slots r) i))
child_in m (P n t r) f x (inl e) = λ o j p k. inr (both_tops t r o.node.slot (f.0 o j (p ∙ ap Some (sym e)) k))
child_in m (P n t r) f x (inr i) = λ o j p k.
    inr (⊎_elim
    (λ (a : Member x (slots t)). member_left o.node.slot (slots t) (slots r) (child_in m t f.1 x a o j p k))
    (λ (a : Member x (slots r)). member_right o.node.slot (slots t) (slots r) (child_in m r f.2 x a o j p k))
    (member_cases x (slots t) (slots r) i))
child_in m (R b t) f x (inl e) = λ o j p k. inr (top_in t o.node.slot (f.0 o j (p ∙ ap Some (sym e)) k))
child_in m (R b t) f x (inr i) = λ o j p k. inr (child_in m t f.1 x i o j p k)

module _ (m : MarksView) (rooted : Rooted m) (us : List ℕ) (above : Option Handle) (n : Handle) (l r : Kept) (p : Planted m us above (P n l r)) where
  abbrev pub Sh : ℕ → Bool
  Sh = outside m l r

  abbrev pub Ri : ℕ → Bool
  Ri = has_node r

  abbrev pub L : MarksView
  L = left_of Sh Ri m

  abbrev pub K : MarksView
  K = right_of Sh Ri m

  abbrev pub beside : List ℕ
  beside = n.slot ∷ us

  pub apart_sides : Apart (slots l) (slots r)
  apart_sides = p.once.1

  pub left_not_right : (x : ℕ) → Member x (slots l) → Ri x ≡ false
  left_not_right x i = is_out x (slots r) (λ j. apart_sides x i j)

  and_no : (a b : Bool) → b ≡ false → (a && b) ≡ false
  and_no true b e = e
  and_no false b e = refl

  pub left_not_shared : (x : ℕ) → Member x (slots l) → Sh x ≡ false
  left_not_shared x i = and_no (times x m.dropped == 0) (not (has_node l x) && not (has_node r x)) (ap (λ b. not b && not (has_node r x)) (is_in x (slots l) i))

  pub right_not_shared : (x : ℕ) → Member x (slots r) → Sh x ≡ false
  right_not_shared x i =
      and_no (times x m.dropped == 0) (not (has_node l x) && not (has_node r x)) (and_no (not (has_node l x)) (not (has_node r x)) (ap not (is_in x (slots r) i)))

  pub dropped_not_shared : (x : ℕ) → IsDropped m x → Sh x ≡ false
  dropped_not_shared x d =
      ap (λ b. b && (not (has_node l x) && not (has_node r x))) (not_true (times x m.dropped == 0) (λ t. let e = nat_is (times x m.dropped) 0 t in omega (arith, d, e)))

  pub outside_shared : (x : ℕ) → IsKept m x → (Member x (slots l) → ⊥) → (Member x (slots r) → ⊥) → Sh x ≡ true
  outside_shared x k a b =
      let zero_is : (times x m.dropped == 0) ≡ true = ap (λ z. z == 0) k ∙ nat_same 0 in
      rw (zero_is, is_out x (slots l) a, is_out x (slots r) b) refl

  -- what isn't shared and isn't dropped is of one of the sides
  side_of : (x : ℕ) → IsKept m x → Sh x ≡ false → Member x (slots l) ⊎ Member x (slots r)
  side_of x k e =
      elim (test_or (has_node l x)) [
        | inl t ↦ inl (in_is x (slots l) t)
        | inr t ↦
            elim (test_or (has_node r x)) [
              | inl s ↦ inr (in_is x (slots r) s)
              | inr s ↦
                  (let zero_is : (times x m.dropped == 0) ≡ true = ap (λ z. z == 0) k ∙ nat_same 0 in
                  let bad : true ≡ false = rw (zero_is, t, s) at e in
                  absurd cc)
            ]
      ]

  pub sides_parted : Parted Sh Ri m
  sides_parted =
      record {
        families = λ o c i j e k f.
            let above_kept = (rooted.kept c o.node.slot j k e).0 in
            elim (side_of o.node.slot above_kept f) [
              | inl a ↦ (let d = child_in m l p.families.1 o.node.slot a c j e k in (left_not_shared c.node.slot d, left_not_right c.node.slot d ∙ sym (left_not_right o.node.slot a)))
              | inr a ↦ (let d = child_in m r p.families.2 o.node.slot a c j e k in (right_not_shared c.node.slot d, is_in c.node.slot (slots r) d ∙ sym (is_in o.node.slot (slots r) a)))
            ];
        dropped = dropped_not_shared;
      }

  -- what goes over is of the right side
  pub over_right : (x : ℕ) → goes_over Sh Ri m x ≡ true → Member x (slots r)
  over_right x t =
      let a = and_is (ltb 0 (times x (map ways.slot m.own))) (not (Sh x) && Ri x) t in
      let b = and_is (not (Sh x)) (Ri x) a.1 in
      in_is x (slots r) b.1

  pub not_over : (x : ℕ) → (Member x (slots r) → ⊥) → goes_over Sh Ri m x ≡ false
  not_over x out = not_true (goes_over Sh Ri m x) (λ t. out (over_right x t))

  pub right_over : (x : ℕ) → Member x (slots r) → goes_over Sh Ri m x ≡ true
  right_over x i =
      let h = node_at m (Some n) r p.nodes.2 x i in
      let has : Member x (map ways.slot m.own) = subst (λ z. Member z (map ways.slot m.own)) h.slot (map_member ways.slot h.own m.own h.is) in
      rw (is_in x (map ways.slot m.own) has, right_not_shared x i, is_in x (slots r) i) refl

  -- what a side has of the nodes
  pub left_own : (o : OwnView) → Member o L.own → Member o m.own
  left_own o i = (member_filter (stays ways Sh Ri) o m.own i).0

  pub right_own : (o : OwnView) → Member o K.own → Member o m.own × Member o.node.slot (slots r)
  right_own o i =
      let q = member_filter (goes ways Sh Ri) o m.own i in
      (q.0, in_is o.node.slot (slots r) (and_is (not (Sh o.node.slot)) (Ri o.node.slot) q.1).1)

  pub stays_left : (o : OwnView) → Member o m.own → Sh o.node.slot ≡ false → Ri o.node.slot ≡ false → Member o L.own
  stays_left o i a b = filter_member (stays ways Sh Ri) o m.own i (rw (a, b) refl)

  pub goes_right : (o : OwnView) → Member o m.own → Member o.node.slot (slots r) → Member o K.own
  goes_right o i j = filter_member (goes ways Sh Ri) o m.own i (rw (right_not_shared o.node.slot j, is_in o.node.slot (slots r) j) refl)

  pub lent : (o : OwnView) → Member o m.own → Sh o.node.slot ≡ true → Member (ways.lend m.claims.branch o) (now_shared Sh Ri m)
  lent o i t =
      member_right (ways.lend m.claims.branch o) m.shared (map (ways.lend m.claims.branch) (filter (lends ways Sh Ri) m.own))
      (map_member (ways.lend m.claims.branch) o (filter (lends ways Sh Ri) m.own) (filter_member (lends ways Sh Ri) o m.own i t))

  -- what both sides have
  pub shared_has : (x : ℕ) → Has (places m) x → Sh x ≡ true → (e : SharedView) × Member e (now_shared Sh Ri m) × (e.node.slot ≡ x)
  shared_has x h t =
      ⊎_elim
      (λ (q : (o : OwnView) × Member o m.own × (own_place m.claims.branch o ≡ h.0)).
      let e : q.0.node.slot ≡ x = ap (λ (z : Place). z.node.slot) q.2 ∙ h.2 in
      (ways.lend m.claims.branch q.0, lent q.0 q.1 (ap Sh e ∙ t), e))
      (λ (q : (s : SharedView) × Member s m.shared × (shared_place s ≡ h.0)).
      (q.0, member_left q.0 m.shared (map (ways.lend m.claims.branch) (filter (lends ways Sh Ri) m.own)) q.1, ap (λ (z : Place). z.node.slot) q.2 ∙ h.2))
      (place_cases m h.0 h.1)

  pub left_kept : (x : ℕ) → IsKept m x → IsKept L x
  left_kept x k = filter_none (λ z. not (goes_over Sh Ri m z)) x m.dropped k

  pub right_kept : (x : ℕ) → IsKept m x → IsKept K x
  right_kept x k = filter_none (goes_over Sh Ri m) x m.dropped k

  pub left_kept_back : (x : ℕ) → (Member x (slots r) → ⊥) → IsKept L x → IsKept m x
  left_kept_back x out k = sym (times_in (λ z. not (goes_over Sh Ri m z)) x m.dropped (ap not (not_over x out))) ∙ k

  pub right_kept_back : (x : ℕ) → Member x (slots r) → IsKept K x → IsKept m x
  right_kept_back x i k = sym (times_in (goes_over Sh Ri m) x m.dropped (right_over x i)) ∙ k

  beside_kept : (x : ℕ) → Member x beside → Has (places m) x × IsKept m x
  beside_kept x (inl e) = let h = node_at m above (P n l r) p.nodes n.slot (inl refl) in subst (λ z. Has (places m) z × IsKept m z) e (own_has m n.slot h, h.kept)
  beside_kept x (inr i) = p.known x i

  pub beside_not_left : Apart beside (slots l)
  beside_not_left x i j =
      elim i [ inl e ↦ p.once.0 (member_left n.slot (slots l) (slots r) (subst (λ z. Member z (slots l)) (sym e) j)) | inr k ↦ p.apart x k (inr (member_left x (slots l) (slots r) j)) ]

  pub beside_not_right : Apart beside (slots r)
  beside_not_right x i j =
      elim i [ inl e ↦ p.once.0 (member_right n.slot (slots l) (slots r) (subst (λ z. Member z (slots r)) (sym e) j)) | inr k ↦ p.apart x k (inr (member_right x (slots l) (slots r) j)) ]

  pub beside_shared : (x : ℕ) → Member x beside → (e : SharedView) × Member e (now_shared Sh Ri m) × (e.node.slot ≡ x)
  beside_shared x i =
      let k = beside_kept x i in
      shared_has x k.0 (outside_shared x k.1 (λ j. beside_not_left x i j) (λ j. beside_not_right x i j))

  pub planted_left : Planted L beside (Some n) l
  planted_left =
      record {
        nodes = nodes_map m L (Some n) l (λ over h i s. (stays_left (record { node = h; parent = slot_of over }) s.0 (left_not_shared h.slot i) (left_not_right h.slot i), left_kept h.slot s.1)) p.nodes.1;
        families = families_map m L l (λ x ys i c o j e k.
            let old = left_own o j in
            let q = member_filter (stays ways Sh Ri) o m.own j in
            let b = and_is (not (Sh o.node.slot)) (not (Ri o.node.slot)) q.1 in
            c o old e (left_kept_back o.node.slot (λ a. not_both (is_in o.node.slot (slots r) a) (not_is (Ri o.node.slot) b.1)) k)) p.families.1;
        once = p.once.2;
        apart = beside_not_left;
        known = λ x i. (let s = beside_shared x i in (shared_place s.0, place_shared L s.0 s.1, s.2), left_kept x (beside_kept x i).1);
        had = λ x more.
            let f = filter_some (λ z. not (goes_over Sh Ri m z)) x m.marked more in
            let h = p.had x f.1 in
            elim (test_or (Sh x)) [
              | inl t ↦ (let s = shared_has x h t in (shared_place s.0, place_shared L s.0 s.1, s.2))
              | inr t ↦
                  ⊎_elim
                  (λ (q : (o : OwnView) × Member o m.own × (own_place m.claims.branch o ≡ h.0)).
                  let e : q.0.node.slot ≡ x = ap (λ (z : Place). z.node.slot) q.2 ∙ h.2 in
                  elim (test_or (Ri x)) [
                    | inl g ↦ absurd (not_both f.0 (ap not (right_over x (in_is x (slots r) g))))
                    | inr g ↦ (own_place L.claims.branch q.0, place_own L q.0 (stays_left q.0 q.1 (ap Sh e ∙ t) (ap Ri e ∙ g)), e)
                  ])
                  (λ (q : (s : SharedView) × Member s m.shared × (shared_place s ≡ h.0)).
                  (shared_place q.0, place_shared L q.0 (member_left q.0 m.shared (map (ways.lend m.claims.branch) (filter (lends ways Sh Ri) m.own)) q.1), ap (λ (z : Place). z.node.slot) q.2 ∙ h.2))
                  (place_cases m h.0 h.1)
            ];
      }
    where
      not_is : (b : Bool) → not b ≡ true → b ≡ false
      not_is true e = absurd cc
      not_is false e = refl

  pub planted_right : Planted K beside (Some n) r
  planted_right =
      record {
        nodes = nodes_map m K (Some n) r (λ over h i s. (goes_right (record { node = h; parent = slot_of over }) s.0 i, right_kept h.slot s.1)) p.nodes.2;
        families = families_map m K r (λ x ys i c o j e k. let q = right_own o j in c o q.0 e (right_kept_back o.node.slot q.1 k)) p.families.2;
        once = p.once.3;
        apart = beside_not_right;
        known = λ x i. (let s = beside_shared x i in (shared_place s.0, place_shared K s.0 s.1, s.2), right_kept x (beside_kept x i).1);
        had = λ x more.
            let f = filter_some (goes_over Sh Ri m) x m.marked more in
            let i = over_right x f.0 in
            let h = node_at m (Some n) r p.nodes.2 x i in
            (own_place K.claims.branch h.own, place_own K h.own (goes_right h.own h.is (subst (λ z. Member z (slots r)) (sym h.slot) i)), h.slot);
      }
