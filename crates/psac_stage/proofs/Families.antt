-- How the nodes of a record stand where a pass has them and no others.
use Rattle.std.proofs.Common.{◌≡◌, ◌⊎◌, ℕ, List, ◌∷◌, ◌++◌, map, Option, Some, refl, ap, sym, ◌∙◌, subst, inl, inr, ⊎_elim, arith}
use Rattle.std.specs.Prelude.{sum_by}
use Rattle.std.proofs.lemmas.List.{map-append}
use Rattle.std.proofs.lemmas.List.Sums.{sum_by-cons, sum_by-append}
use Rattle.psac_ops.specs.declared.plain.Handle.{Handle}
use Rattle.psac_slots.specs.Handles.{Member}
use Rattle.psac_slots.specs.Claiming.{times}
use Rattle.psac_slots.proofs.Pairs.{member_left, member_right, member_cases}
use Rattle.psac_marks.specs.declared.view.OwnView.{OwnView}
use Rattle.psac_marks.specs.declared.view.MarksView.{MarksView}
use Rattle.psac_marks.specs.Passes.{slot_of}
use Rattle.psac_laws.proofs.Places.{some_is}
use Rattle.psac_record.specs.Kept.{Kept, E, A, W, S, P, R, nodes_below, nodes_in}
use Rattle.psac_trace.specs.Grown.{as_own}
use Rattle.psac_repair.specs.Marks.{Nodes}
use Rattle.psac_repair.specs.Planted.{slots, tops, Once, Children, Families}

abbrev pub Pair : Type 0
Pair = Handle × Option Handle

map_left : (o : OwnView) (xs ys : List Pair) → Member o (map as_own xs) → Member o (map as_own (xs ++ ys))
map_left o xs ys i = subst (Member o) (sym (map-append as_own xs ys)) (member_left o (map as_own xs) (map as_own ys) i)

map_right : (o : OwnView) (xs ys : List Pair) → Member o (map as_own ys) → Member o (map as_own (xs ++ ys))
map_right o xs ys i = subst (Member o) (sym (map-append as_own xs ys)) (member_right o (map as_own xs) (map as_own ys) i)

map_cases : (o : OwnView) (xs ys : List Pair) → Member o (map as_own (xs ++ ys)) → Member o (map as_own xs) ⊎ Member o (map as_own ys)
map_cases o xs ys i = member_cases o (map as_own xs) (map as_own ys) (subst (Member o) (map-append as_own xs ys) i)

-- the nodes of a record, each with its parent
abbrev pub Below : Option Handle → Kept → OwnView → Type 0
Below above t o = Member o (map as_own (nodes_below above t))

pub nodes_by : (m : MarksView) → ((x : ℕ) → times x m.dropped ≡ 0) → (above : Option Handle) (t : Kept)
    → ((o : OwnView) → Below above t o → Member o m.own) → Nodes m above t
nodes_by m kept above E f = tt
nodes_by m kept above (A h r) f = nodes_by m kept above r f
nodes_by m kept above (W h v r) f = nodes_by m kept above r f
nodes_by m kept above (S n l r) f = (
  (f (as_own (n, above)) (inl refl), kept n.slot),
  nodes_by m kept (Some n) l (λ o i. f o (inr (map_left o (nodes_below (Some n) l) (nodes_below (Some n) r) i))),
  nodes_by m kept (Some n) r (λ o i. f o (inr (map_right o (nodes_below (Some n) l) (nodes_below (Some n) r) i))),
)
nodes_by m kept above (P n l r) f = (
  (f (as_own (n, above)) (inl refl), kept n.slot),
  nodes_by m kept (Some n) l (λ o i. f o (inr (map_left o (nodes_below (Some n) l) (nodes_below (Some n) r) i))),
  nodes_by m kept (Some n) r (λ o i. f o (inr (map_right o (nodes_below (Some n) l) (nodes_below (Some n) r) i))),
)
nodes_by m kept above (R b t) f = (
  (f (as_own (b.node, above)) (inl refl), kept b.node.slot),
  nodes_by m kept (Some b.node) t
      (λ o i. f o (inr i)),
)

-- a node stands at the top of the record, or below one of its nodes
abbrev Kid : Option Handle → Kept → OwnView → Type 0
Kid above t o = ((o.parent ≡ slot_of above) × Member o.node.slot (tops t)) ⊎ ((y : ℕ) × (o.parent ≡ Some y) × Member y (slots t))

kid_up : (above : Option Handle) (n : Handle) (l t : Kept) (o : OwnView) → Member n.slot (slots t)
    → ((x : ℕ) → Member x (slots l) → Member x (slots t)) → Kid (Some n) l o → Kid above t o
kid_up above n l t o here more (inl k) = inr (n.slot, k.0, here)
kid_up above n l t o here more (inr k) = inr (k.0, k.1, more k.0 k.2)

kids : (above : Option Handle) (t : Kept) (o : OwnView) → Below above t o → Kid above t o
kids above E o i = absurd i
kids above (A h r) o i = kids above r o i
kids above (W h v r) o i = kids above r o i
kids above (S n l r) o (inl e) = inl (ap (λ (z : OwnView). z.parent) (sym e), inl (ap (λ (z : OwnView). z.node.slot) e))
kids above (S n l r) o (inr i) =
    ⊎_elim
    (λ (j : Below (Some n) l o). kid_up above n l (S n l r) o (inl refl) (λ x s. inr (member_left x (slots l) (slots r) s))
    (kids (Some n) l o j))
    (λ (j : Below (Some n) r o). kid_up above n r (S n l r) o (inl refl) (λ x s. inr (member_right x (slots l) (slots r) s))
    (kids (Some n) r o j))
    (map_cases o (nodes_below (Some n) l) (nodes_below (Some n) r) i)
kids above (P n l r) o (inl e) = inl (ap (λ (z : OwnView). z.parent) (sym e), inl (ap (λ (z : OwnView). z.node.slot) e))
kids above (P n l r) o (inr i) =
    ⊎_elim
    (λ (j : Below (Some n) l o). kid_up above n l (P n l r) o (inl refl) (λ x s. inr (member_left x (slots l) (slots r) s))
    (kids (Some n) l o j))
    (λ (j : Below (Some n) r o). kid_up above n r (P n l r) o (inl refl) (λ x s. inr (member_right x (slots l) (slots r) s))
    (kids (Some n) r o j))
    (map_cases o (nodes_below (Some n) l) (nodes_below (Some n) r) i)
kids above (R b t) o (inl e) = inl (ap (λ (z : OwnView). z.parent) (sym e), inl (ap (λ (z : OwnView). z.node.slot) e))
kids above (R b t) o (inr i) = kid_up above b.node t (R b t) o (inl refl) (λ x s. inr s) (kids (Some b.node) t o i)

-- the node above isn't of the record, and what stands below a node of the record is of it
abbrev pub Over : Option Handle → List ℕ → Type 0
Over above xs = (x : ℕ) → slot_of above ≡ Some x → Member x xs → ⊥

abbrev pub Closed : MarksView → Option Handle → Kept → Type 0
Closed m above t = (o : OwnView) (x : ℕ) → Member o m.own → o.parent ≡ Some x → Member x (slots t) → Below above t o

-- not where the node's slot is none of these
kid_not : (n : Handle) (l : Kept) (o : OwnView) (x : ℕ) → o.parent ≡ Some x → (n.slot ≡ x → ⊥) → (Member x (slots l) → ⊥)
    → Kid (Some n) l o → ⊥
kid_not n l o x e here below (inl k) = here (some_is (sym k.0 ∙ e))
kid_not n l o x e here below (inr k) = below (subst (λ z. Member z (slots l)) (some_is (sym k.1 ∙ e)) k.2)

kid_top : (n : Handle) (l : Kept) (o : OwnView) → o.parent ≡ Some n.slot → (Member n.slot (slots l) → ⊥) → Kid (Some n) l o
    → Member o.node.slot (tops l)
kid_top n l o e below (inl k) = k.1
kid_top n l o e below (inr k) = absurd (below (subst (λ z. Member z (slots l)) (some_is (sym k.1 ∙ e)) k.2))

not_head : (above : Option Handle) (n : Handle) (o : OwnView) (x : ℕ) (xs : List ℕ) → Over above xs → o.parent ≡ Some x → Member x xs
    → as_own (n, above) ≡ o → ⊥
not_head above n o x xs over e i q = over x (ap (λ (z : OwnView). z.parent) q ∙ e) i

module _ (m : MarksView) (above : Option Handle) (n : Handle) (l r : Kept) (once : Once (S n l r))
    (over : Over above (slots (S n l r))) (closed : Closed m above (S n l r)) where
  not_left : Member n.slot (slots l) → ⊥
  not_left i = once.0 (member_left n.slot (slots l) (slots r) i)

  not_right : Member n.slot (slots r) → ⊥
  not_right i = once.0 (member_right n.slot (slots l) (slots r) i)

  split : (o : OwnView) (x : ℕ) → Member o m.own → o.parent ≡ Some x → Member x (slots (S n l r)) → Below (Some n) l o ⊎ Below (Some n) r o
  split o x i e s =
      elim (closed o x i e s) [
        | inl q ↦ absurd (not_head above n o x (slots (S n l r)) over e s q)
        | inr j ↦ map_cases o (nodes_below (Some n) l) (nodes_below (Some n) r) j
      ]

  children : Children m n.slot (tops l ++ tops r)
  children o i e k =
      ⊎_elim
      (λ (j : Below (Some n) l o). member_left o.node.slot (tops l) (tops r) (kid_top n l o e not_left (kids (Some n) l o j)))
      (λ (j : Below (Some n) r o). member_right o.node.slot (tops l) (tops r) (kid_top n r o e not_right (kids (Some n) r o j)))
      (split o n.slot i e (inl refl))

  closed_left : Closed m (Some n) l
  closed_left o x i e s =
      ⊎_elim
      (λ (j : Below (Some n) l o). j)
      (λ (j : Below (Some n) r o). absurd (kid_not n r o x e (λ q. not_left (subst (λ z. Member z (slots l)) (sym q) s))
      (λ t. once.1 x s t) (kids (Some n) r o j)))
      (split o x i e (inr (member_left x (slots l) (slots r) s)))

  closed_right : Closed m (Some n) r
  closed_right o x i e s =
      ⊎_elim
      (λ (j : Below (Some n) l o). absurd (kid_not n l o x e (λ q. not_right (subst (λ z. Member z (slots r)) (sym q) s))
      (λ t. once.1 x t s) (kids (Some n) l o j)))
      (λ (j : Below (Some n) r o). j)
      (split o x i e (inr (member_right x (slots l) (slots r) s)))

  over_left : Over (Some n) (slots l)
  over_left x e s = not_left (subst (λ z. Member z (slots l)) (sym (some_is e)) s)

  over_right : Over (Some n) (slots r)
  over_right x e s = not_right (subst (λ z. Member z (slots r)) (sym (some_is e)) s)

pub families_by : (m : MarksView) (above : Option Handle) (t : Kept) → Once t → Over above (slots t) → Closed m above t → Families m t
families_by m above E once over closed = tt
families_by m above (A h r) once over closed = families_by m above r once over closed
families_by m above (W h v r) once over closed = families_by m above r once over closed
families_by m above (S n l r) once over closed = (
  children m above n l r once over closed,
  families_by m (Some n) l once.2 (over_left m above n l r once over closed) (closed_left m above n l r once over closed),
  families_by m (Some n) r once.3 (over_right m above n l r once over closed) (closed_right m above n l r once over closed),
)
families_by m above (P n l r) once over closed = (
  children m above n l r once over closed,
  families_by m (Some n) l once.2 (over_left m above n l r once over closed) (closed_left m above n l r once over closed),
  families_by m (Some n) r once.3 (over_right m above n l r once over closed) (closed_right m above n l r once over closed),
)
families_by m above (R b t) once over closed = (
  λ o i e k. kid_top b.node t o e once.0 (kids (Some b.node) t o (inside o b.node.slot i e (inl refl))),
  families_by m (Some b.node) t once.1 (λ x e s. once.0 (subst (λ z. Member z (slots t)) (sym (some_is e)) s))
      (λ o x i e s. inside o x i e (inr s)),
)
  where
    inside : (o : OwnView) (x : ℕ) → Member o m.own → o.parent ≡ Some x → Member x (slots (R b t)) → Below (Some b.node) t o
    inside o x i e s = elim (closed o x i e s) [ inl q ↦ absurd (not_head above b.node o x (slots (R b t)) over e s q) | inr j ↦ j ]

-- each node once, whatever is counted
two_sums : (f : Handle → ℕ) (above : Option Handle) (n : Handle) (xs ys : List Pair) (us vs : List Handle)
    → sum_by (λ (q : Pair). f q.0) xs ≡ sum_by f us → sum_by (λ (q : Pair). f q.0) ys ≡ sum_by f vs
    → sum_by (λ (q : Pair). f q.0) ((n, above) ∷ xs ++ ys) ≡ sum_by f (n ∷ (us ++ vs))
two_sums f above n xs ys us vs a b =
    let c = sum_by-cons (λ (q : Pair). f q.0) (n, above) (xs ++ ys) in
    let d = sum_by-append (λ (q : Pair). f q.0) xs ys in
    let e = sum_by-cons f n (us ++ vs) in
    let g = sum_by-append f us vs in
    omega (arith, a, b, c, d, e, g)

pub below_sum : (f : Handle → ℕ) (above : Option Handle) (t : Kept)
    → sum_by (λ (q : Pair). f q.0) (nodes_below above t) ≡ sum_by f (nodes_in t)
below_sum f above E = refl
below_sum f above (A h r) = below_sum f above r
below_sum f above (W h v r) = below_sum f above r
below_sum f above (S n l r) = two_sums f above n (nodes_below (Some n) l) (nodes_below (Some n) r) (nodes_in l) (nodes_in r)
    (below_sum f (Some n) l) (below_sum f (Some n) r)
below_sum f above (P n l r) = two_sums f above n (nodes_below (Some n) l) (nodes_below (Some n) r) (nodes_in l) (nodes_in r)
    (below_sum f (Some n) l) (below_sum f (Some n) r)
below_sum f above (R b t) =
    let c = sum_by-cons (λ (q : Pair). f q.0) (b.node, above) (nodes_below (Some b.node) t) in
    let e = sum_by-cons f b.node (nodes_in t) in
    let a = below_sum f (Some b.node) t in
    omega (arith, a, c, e)
