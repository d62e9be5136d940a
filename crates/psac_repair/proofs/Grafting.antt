-- A tree of new nodes in the place of one that was taken off, below the same node.
use Rattle.std.proofs.Common.{◌∷◌, ◌≡◌, ◌≢◌, ◌⊎◌, ℕ, ◌+◌, ◌<◌, List, [], ◌++◌, map, Option, Some, None, refl, ap, sym, ◌∙◌, subst, inl, inr, ⊎_elim, arith}
use Rattle.psac_ops.specs.declared.plain.Handle.{Handle}
use Rattle.psac_slots.specs.Handles.{Member}
use Rattle.psac_slots.specs.Claiming.{times}
use Rattle.psac_slots.proofs.Pairs.{member_left, member_right, member_cases, member_map, map_member}
use Rattle.psac_laws.proofs.Places.{zero_or, some_is}
use Rattle.psac_marks.specs.declared.view.OwnView.{OwnView}
use Rattle.psac_marks.specs.declared.view.MarksView.{MarksView}
use Rattle.psac_marks.specs.Marked.{places, own_place, shared_place, Has}
use Rattle.psac_marks.specs.Steps.{Lacks, cleared, dropping}
use Rattle.psac_marks.specs.Passes.{IsKept, Keeps, Owns, Bare, slot_of}
use Rattle.psac_marks.proofs.Parts.{place_own, place_shared, times_gone, times_else}
use Rattle.psac_marks.proofs.Counted.{times_both, times_member, times_found}
use Rattle.psac_record.specs.declared.parts.Reading.{Reading}
use Rattle.psac_record.specs.declared.parts.Seen.{Seen}
use Rattle.psac_record.specs.Kept.{Kept, E, A, W, S, P, R, nodes_below}
use Rattle.psac_trace.specs.Fit.{Rooted}
use Rattle.psac_trace.specs.Grown.{Differ, as_own, MoreNodes, MoreMarks}
use Rattle.psac_repair.specs.Taken.{nodes_up}
use Rattle.psac_repair.specs.Marks.{Sits, Nodes}
use Rattle.psac_repair.specs.Planted.{slots, tops, Apart, Once, Children, Families, NoneMarked, IsMade, Planted, Passed, Replanted}
use Rattle.psac_repair.specs.Unshared.{Unshared}
use Rattle.psac_repair.proofs.Passing.{times_none, top_in, up_in, Here, node_at, own_has, lacks_not}
use Rattle.psac_repair.proofs.Weighing.{own_tests, sum_right, sum_cases, Beyond, beyond}

abbrev Pair : Type 0
Pair = Handle × Option Handle

-- the nodes of a record, each with the node above it
pair_slot : (par : Option Handle) (k : Kept) (q : Pair) → Member q (nodes_below par k) → Member q.0.slot (slots k)
pair_slot par E q i = absurd i
pair_slot par (A m r) q i = pair_slot par r q i
pair_slot par (W m v r) q i = pair_slot par r q i
pair_slot par (S n t r) q (inl e) = inl (ap (λ (z : Pair). z.0.slot) e)
pair_slot par (S n t r) q (inr i) =
    inr (⊎_elim
    (λ (j : Member q (nodes_below (Some n) t)). member_left q.0.slot (slots t) (slots r) (pair_slot (Some n) t q j))
    (λ (j : Member q (nodes_below (Some n) r)). member_right q.0.slot (slots t) (slots r) (pair_slot (Some n) r q j))
    (member_cases q (nodes_below (Some n) t) (nodes_below (Some n) r) i))
pair_slot par (P n t r) q (inl e) = inl (ap (λ (z : Pair). z.0.slot) e)
pair_slot par (P n t r) q (inr i) =
    inr (⊎_elim
    (λ (j : Member q (nodes_below (Some n) t)). member_left q.0.slot (slots t) (slots r) (pair_slot (Some n) t q j))
    (λ (j : Member q (nodes_below (Some n) r)). member_right q.0.slot (slots t) (slots r) (pair_slot (Some n) r q j))
    (member_cases q (nodes_below (Some n) t) (nodes_below (Some n) r) i))
pair_slot par (R b t) q (inl e) = inl (ap (λ (z : Pair). z.0.slot) e)
pair_slot par (R b t) q (inr i) = inr (pair_slot (Some b.node) t q i)

abbrev Stood : Option Handle → Kept → ℕ → Type 0
Stood par k x = (q : Pair) × Member q (nodes_below par k) × (q.0.slot ≡ x)

slot_pair : (par : Option Handle) (k : Kept) (x : ℕ) → Member x (slots k) → Stood par k x
slot_pair par E x i = absurd i
slot_pair par (A m r) x i = slot_pair par r x i
slot_pair par (W m v r) x i = slot_pair par r x i
slot_pair par (S n t r) x (inl e) = ((n, par), inl refl, e)
slot_pair par (S n t r) x (inr i) =
    ⊎_elim
    (λ (j : Member x (slots t)). let a = slot_pair (Some n) t x j in (a.0, inr (member_left a.0 (nodes_below (Some n) t) (nodes_below (Some n) r) a.1), a.2))
    (λ (j : Member x (slots r)). let a = slot_pair (Some n) r x j in (a.0, inr (member_right a.0 (nodes_below (Some n) t) (nodes_below (Some n) r) a.1), a.2))
    (member_cases x (slots t) (slots r) i)
slot_pair par (P n t r) x (inl e) = ((n, par), inl refl, e)
slot_pair par (P n t r) x (inr i) =
    ⊎_elim
    (λ (j : Member x (slots t)). let a = slot_pair (Some n) t x j in (a.0, inr (member_left a.0 (nodes_below (Some n) t) (nodes_below (Some n) r) a.1), a.2))
    (λ (j : Member x (slots r)). let a = slot_pair (Some n) r x j in (a.0, inr (member_right a.0 (nodes_below (Some n) t) (nodes_below (Some n) r) a.1), a.2))
    (member_cases x (slots t) (slots r) i)
slot_pair par (R b t) x (inl e) = ((b.node, par), inl refl, e)
slot_pair par (R b t) x (inr i) = let a = slot_pair (Some b.node) t x i in (a.0, inr a.1, a.2)

-- a node stands at the top, below the node above all, or below one of the record
abbrev Below : Option Handle → Kept → Pair → Type 0
Below par k q = ((q.1 ≡ par) × Member q.0.slot (tops k)) ⊎ ((h : Handle) × (q.1 ≡ Some h) × Member h.slot (slots k))

below_node : (n : Handle) (k : Kept) (q : Pair) (xs : List ℕ) → ((x : ℕ) → Member x (slots k) → Member x xs) → Below (Some n) k q → (h : Handle) × (q.1 ≡ Some h) × Member h.slot (n.slot ∷ xs)
below_node n k q xs into b =
    ⊎_elim
    (λ (a : (q.1 ≡ Some n) × Member q.0.slot (tops k)). (n, a.0, inl refl))
    (λ (a : (h : Handle) × (q.1 ≡ Some h) × Member h.slot (slots k)). (a.0, a.1, inr (into a.0.slot a.2)))
    b

pair_below : (par : Option Handle) (k : Kept) (q : Pair) → Member q (nodes_below par k) → Below par k q
pair_below par E q i = absurd i
pair_below par (A m r) q i = pair_below par r q i
pair_below par (W m v r) q i = pair_below par r q i
pair_below par (S n t r) q (inl e) = inl (ap (λ (z : Pair). z.1) (sym e), inl (ap (λ (z : Pair). z.0.slot) e))
pair_below par (S n t r) q (inr i) =
    inr (⊎_elim
    (λ (j : Member q (nodes_below (Some n) t)). below_node n t q (slots t ++ slots r) (λ x c. member_left x (slots t) (slots r) c) (pair_below (Some n) t q j))
    (λ (j : Member q (nodes_below (Some n) r)). below_node n r q (slots t ++ slots r) (λ x c. member_right x (slots t) (slots r) c) (pair_below (Some n) r q j))
    (member_cases q (nodes_below (Some n) t) (nodes_below (Some n) r) i))
pair_below par (P n t r) q (inl e) = inl (ap (λ (z : Pair). z.1) (sym e), inl (ap (λ (z : Pair). z.0.slot) e))
pair_below par (P n t r) q (inr i) =
    inr (⊎_elim
    (λ (j : Member q (nodes_below (Some n) t)). below_node n t q (slots t ++ slots r) (λ x c. member_left x (slots t) (slots r) c) (pair_below (Some n) t q j))
    (λ (j : Member q (nodes_below (Some n) r)). below_node n r q (slots t ++ slots r) (λ x c. member_right x (slots t) (slots r) c) (pair_below (Some n) r q j))
    (member_cases q (nodes_below (Some n) t) (nodes_below (Some n) r) i))
pair_below par (R b t) q (inl e) = inl (ap (λ (z : Pair). z.1) (sym e), inl (ap (λ (z : Pair). z.0.slot) e))
pair_below par (R b t) q (inr i) = inr (below_node b.node t q (slots t) (λ x c. c) (pair_below (Some b.node) t q i))

-- where each of them is the pass's own, they stand there
nodes_made : (n : MarksView) (par : Option Handle) (k : Kept) → ((q : Pair) → Member q (nodes_below par k) → Sits n q.1 q.0) → Nodes n par k
nodes_made n par E f = tt
nodes_made n par (A m r) f = nodes_made n par r f
nodes_made n par (W m v r) f = nodes_made n par r f
nodes_made n par (S c t r) f = (
  f (c, par) (inl refl),
  nodes_made n (Some c) t (λ q i. f q (inr (member_left q (nodes_below (Some c) t) (nodes_below (Some c) r) i))),
  nodes_made n (Some c) r (λ q i. f q (inr (member_right q (nodes_below (Some c) t) (nodes_below (Some c) r) i))),
)
nodes_made n par (P c t r) f = (
  f (c, par) (inl refl),
  nodes_made n (Some c) t (λ q i. f q (inr (member_left q (nodes_below (Some c) t) (nodes_below (Some c) r) i))),
  nodes_made n (Some c) r (λ q i. f q (inr (member_right q (nodes_below (Some c) t) (nodes_below (Some c) r) i))),
)
nodes_made n par (R b t) f = (f (b.node, par) (inl refl), nodes_made n (Some b.node) t (λ q i. f q (inr i)))

-- what stands below a node of the record is of the record
abbrev Closed : MarksView → Option Handle → Kept → Type 0
Closed n par k = (x : ℕ) (o : OwnView) → Member x (slots k) → Member o n.own → o.parent ≡ Some x → IsKept n o.node.slot → (q : Pair) × Member q (nodes_below par k) × (as_own q ≡ o)

-- the node above isn't of the record
abbrev Over : Option Handle → Kept → Type 0
Over par k = (h : Handle) → par ≡ Some h → Member h.slot (slots k) → ⊥

over_some : (c : Handle) (k : Kept) → (Member c.slot (slots k) → ⊥) → Over (Some c) k
over_some c k out h e i = out (subst (λ (z : Handle). Member z.slot (slots k)) (sym (some_is e)) i)

parent_of : (q : Pair) (o : OwnView) (x : ℕ) (h : Handle) → as_own q ≡ o → o.parent ≡ Some x → q.1 ≡ Some h → h.slot ≡ x
parent_of q o x h e f g = some_is (ap slot_of (sym g) ∙ ap (λ (z : OwnView). z.parent) e ∙ f)

slot_is : (q : Pair) (o : OwnView) (xs : List ℕ) → as_own q ≡ o → Member q.0.slot xs → Member o.node.slot xs
slot_is q o xs e i = subst (λ (z : OwnView). Member z.node.slot xs) e i

-- a node and two records below it
module _ (n : MarksView) (par : Option Handle) (c : Handle) (t r : Kept) (once : Once (S c t r)) (over : Over par (S c t r)) (closed : Closed n par (S c t r)) where
  above_all : (q : Pair) (o : OwnView) (x : ℕ) → Member x (slots (S c t r)) → o.parent ≡ Some x → as_own q ≡ o → (c, par) ≡ q → ⊥
  above_all q o x i f e s = by par refl
    where
      by : (w : Option Handle) → w ≡ par → ⊥
      by (Some h) g = over h (sym g) (subst (λ y. Member y (slots (S c t r))) (sym (parent_of q o x h e f (ap (λ (z : Pair). z.1) (sym s) ∙ sym g))) i)
      by None g = absurd (let d : slot_of None ≡ Some x = ap slot_of g ∙ ap (λ (z : Pair). slot_of z.1) s ∙ ap (λ (z : OwnView). z.parent) e ∙ f in cc)

  split : (x : ℕ) (o : OwnView) → Member x (slots (S c t r)) → Member o n.own → o.parent ≡ Some x → IsKept n o.node.slot → ((q : Pair) × Member q (nodes_below (Some c) t) × (as_own q ≡ o)) ⊎ ((q : Pair) × Member q (nodes_below (Some c) r) × (as_own q ≡ o))
  split x o i j f k =
      let a = closed x o i j f k in
      ⊎_elim
      (λ (s : (c, par) ≡ a.0). absurd (above_all a.0 o x i f a.2 s))
      (λ (s : Member a.0 (nodes_below (Some c) t ++ nodes_below (Some c) r)).
      ⊎_elim
      (λ (d : Member a.0 (nodes_below (Some c) t)). inl (a.0, d, a.2))
      (λ (d : Member a.0 (nodes_below (Some c) r)). inr (a.0, d, a.2))
      (member_cases a.0 (nodes_below (Some c) t) (nodes_below (Some c) r) s))
      a.1

  -- a node of one side isn't below one of the other
  not_across : (u w : Kept) → (Member c.slot (slots w) → ⊥) → Apart (slots w) (slots u) → (x : ℕ) (o : OwnView) (q : Pair) → Member x (slots w) → o.parent ≡ Some x → as_own q ≡ o → Member q (nodes_below (Some c) u) → ⊥
  not_across u w out apart x o q i f e j =
      ⊎_elim
      (λ (a : (q.1 ≡ Some c) × Member q.0.slot (tops u)). out (subst (λ y. Member y (slots w)) (sym (parent_of q o x c e f a.0)) i))
      (λ (a : (h : Handle) × (q.1 ≡ Some h) × Member h.slot (slots u)). apart x i (subst (λ y. Member y (slots u)) (parent_of q o x a.0 e f a.1) a.2))
      (pair_below (Some c) u q j)

  closed_left : Closed n (Some c) t
  closed_left x o i j f k =
      ⊎_elim
      (λ (a : (q : Pair) × Member q (nodes_below (Some c) t) × (as_own q ≡ o)). a)
      (λ (a : (q : Pair) × Member q (nodes_below (Some c) r) × (as_own q ≡ o)).
      absurd (not_across r t (λ d. once.0 (member_left c.slot (slots t) (slots r) d)) once.1 x o a.0 i f a.2 a.1))
      (split x o (inr (member_left x (slots t) (slots r) i)) j f k)

  closed_right : Closed n (Some c) r
  closed_right x o i j f k =
      ⊎_elim
      (λ (a : (q : Pair) × Member q (nodes_below (Some c) t) × (as_own q ≡ o)).
      absurd (not_across t r (λ d. once.0 (member_right c.slot (slots t) (slots r) d)) (λ y d e. once.1 y e d) x o a.0 i f a.2 a.1))
      (λ (a : (q : Pair) × Member q (nodes_below (Some c) r) × (as_own q ≡ o)). a)
      (split x o (inr (member_right x (slots t) (slots r) i)) j f k)

  top_of : (u : Kept) → (Member c.slot (slots u) → ⊥) → (o : OwnView) (q : Pair) → o.parent ≡ Some c.slot → as_own q ≡ o → Member q (nodes_below (Some c) u) → Member o.node.slot (tops u)
  top_of u out o q f e j =
      ⊎_elim
      (λ (a : (q.1 ≡ Some c) × Member q.0.slot (tops u)). slot_is q o (tops u) e a.1)
      (λ (a : (h : Handle) × (q.1 ≡ Some h) × Member h.slot (slots u)). absurd (out (subst (λ y. Member y (slots u)) (parent_of q o c.slot a.0 e f a.1) a.2)))
      (pair_below (Some c) u q j)

  node_children : Children n c.slot (tops t ++ tops r)
  node_children o j f k =
      ⊎_elim
      (λ (a : (q : Pair) × Member q (nodes_below (Some c) t) × (as_own q ≡ o)).
      member_left o.node.slot (tops t) (tops r) (top_of t (λ d. once.0 (member_left c.slot (slots t) (slots r) d)) o a.0 f a.2 a.1))
      (λ (a : (q : Pair) × Member q (nodes_below (Some c) r) × (as_own q ≡ o)).
      member_right o.node.slot (tops t) (tops r) (top_of r (λ d. once.0 (member_right c.slot (slots t) (slots r) d)) o a.0 f a.2 a.1))
      (split c.slot o (inl refl) j f k)

families_made : (n : MarksView) (par : Option Handle) (k : Kept) → Once k → Over par k → Closed n par k → Families n k
families_made n par E once over closed = tt
families_made n par (A m r) once over closed = families_made n par r once over closed
families_made n par (W m v r) once over closed = families_made n par r once over closed
families_made n par (S c t r) once over closed = (
  node_children n par c t r once over closed,
  families_made n (Some c) t once.2 (over_some c t (λ d. once.0 (member_left c.slot (slots t) (slots r) d))) (closed_left n par c t r once over closed),
  families_made n (Some c) r once.3 (over_some c r (λ d. once.0 (member_right c.slot (slots t) (slots r) d))) (closed_right n par c t r once over closed),
)
families_made n par (P c t r) once over closed = (
  node_children n par c t r once over closed,
  families_made n (Some c) t once.2 (over_some c t (λ d. once.0 (member_left c.slot (slots t) (slots r) d))) (closed_left n par c t r once over closed),
  families_made n (Some c) r once.3 (over_some c r (λ d. once.0 (member_right c.slot (slots t) (slots r) d))) (closed_right n par c t r once over closed),
)
families_made n par (R b t) once over closed =
    let as_step : Closed n par (S b.node t E) = λ x o i j f k. let a = closed x o (block_slots t x i) j f k in (a.0, block_nodes t a.0 a.1, a.2) in
    let as_once : Once (S b.node t E) = (λ i. once.0 (end_left b.node.slot (slots t) i), λ x i j. j, once.1, tt) in
    let as_over : Over par (S b.node t E) = λ h e i. over h e (block_slots t h.slot i) in (
      λ o j f k. end_left o.node.slot (tops t) (node_children n par b.node t E as_once as_over as_step o j f k),
      families_made n (Some b.node) t once.1 (over_some b.node t once.0) (closed_left n par b.node t E as_once as_over as_step),
    )
  where
    end_left : {X : Type 0} (x : X) (xs : List X) → Member x (xs ++ []) → Member x xs
    end_left x xs i = ⊎_elim (λ (a : Member x xs). a) (λ (a : Member x []). absurd a) (member_cases x xs [] i)

    block_slots : (t : Kept) (x : ℕ) → Member x (b.node.slot ∷ slots t ++ []) → Member x (b.node.slot ∷ slots t)
    block_slots t x (inl e) = inl e
    block_slots t x (inr i) = inr (end_left x (slots t) i)

    block_nodes : (t : Kept) (q : Pair) → Member q ((b.node, par) ∷ nodes_below (Some b.node) t) → Member q ((b.node, par) ∷ nodes_below (Some b.node) t ++ [])
    block_nodes t q (inl e) = inl e
    block_nodes t q (inr i) = inr (member_left q (nodes_below (Some b.node) t) [] i)

-- nodes of which no two are one
abbrev heads : List Pair → List Handle
heads = map (λ (q : Pair). q.0)

heads_are : (ps : List Pair) → map (λ (o : OwnView). o.node) (map as_own ps) ≡ heads ps
heads_are [] = refl
heads_are (q ∷ ps) = ap (λ z. q.0 ∷ z) (heads_are ps)

head_in : (q : Pair) (ps : List Pair) → Member q ps → Member q.0 (heads ps)
head_in q ps i = map_member (λ (z : Pair). z.0) q ps i

heads_left : (n : Handle) (a b : List Pair) → Member n (heads a) → Member n (heads (a ++ b))
heads_left n a b i = let q = member_map (λ (z : Pair). z.0) n a i in subst (λ z. Member z (heads (a ++ b))) q.2 (head_in q.0 (a ++ b) (member_left q.0 a b q.1))

differ_front : (a b : List Pair) → Differ (heads (a ++ b)) → Differ (heads a)
differ_front [] b d = tt
differ_front (q ∷ a) b d = (λ n i e. d.0 n (heads_left n a b i) e, differ_front a b d.1)

differ_back : (a b : List Pair) → Differ (heads (a ++ b)) → Differ (heads b)
differ_back [] b d = d
differ_back (q ∷ a) b d = differ_back a b d.1

differ_apart : (a b : List Pair) → Differ (heads (a ++ b)) → (q z : Pair) → Member q a → Member z b → z.0.slot ≡ q.0.slot → ⊥
differ_apart [] b d q z i j e = absurd i
differ_apart (p ∷ a) b d q z (inl s) j e = d.0 z.0 (head_in z (a ++ b) (member_right z a b j)) (e ∙ ap (λ (w : Pair). w.0.slot) (sym s))
differ_apart (p ∷ a) b d q z (inr i) j e = differ_apart a b d.1 q z i j e

once_pair : (par : Option Handle) (n : Handle) (t r : Kept) → Differ (heads (nodes_below par (S n t r))) → Once t → Once r
    → Once (S n t r)
once_pair par n t r d first second =
    let x = nodes_below (Some n) t in
    let y = nodes_below (Some n) r in (
      λ i. ⊎_elim
          (λ (j : Member n.slot (slots t)). let a = slot_pair (Some n) t n.slot j in d.0 a.0.0 (head_in a.0 (x ++ y) (member_left a.0 x y a.1)) a.2)
          (λ (j : Member n.slot (slots r)). let a = slot_pair (Some n) r n.slot j in d.0 a.0.0 (head_in a.0 (x ++ y) (member_right a.0 x y a.1)) a.2)
          (member_cases n.slot (slots t) (slots r) i),
      λ z i j. let a = slot_pair (Some n) t z i in let b = slot_pair (Some n) r z j in differ_apart x y d.1 a.0 b.0 a.1 b.1 (b.2 ∙ sym a.2),
      first,
      second,
    )

once_heads : (par : Option Handle) (k : Kept) → Differ (heads (nodes_below par k)) → Once k
once_heads par E d = tt
once_heads par (A m r) d = once_heads par r d
once_heads par (W m v r) d = once_heads par r d
once_heads par (S n t r) d =
    let x = nodes_below (Some n) t in
    let y = nodes_below (Some n) r in
    once_pair par n t r d (once_heads (Some n) t (differ_front x y d.1)) (once_heads (Some n) r (differ_back x y d.1))
once_heads par (P n t r) d =
    let x = nodes_below (Some n) t in
    let y = nodes_below (Some n) r in
    once_pair par n t r d (once_heads (Some n) t (differ_front x y d.1)) (once_heads (Some n) r (differ_back x y d.1))
once_heads par (R b t) d = (
  λ i. let a = slot_pair (Some b.node) t b.node.slot i in d.0 a.0.0 (head_in a.0 (nodes_below (Some b.node) t) a.1) a.2,
  once_heads (Some b.node) t d.1,
)

pub once_made : (par : Option Handle) (k : Kept) → Differ (map (λ (o : OwnView). o.node) (map as_own (nodes_below par k))) → Once k
once_made par k d = once_heads par k (subst Differ (heads_are (nodes_below par k)) d)

pub new_made : (m : MarksView) (par : Option Handle) (k : Kept) → ((o : OwnView) → Member o (map as_own (nodes_below par k)) → Lacks m o.node.slot) → (x : ℕ) → Member x (slots k) → Lacks m x
new_made m par k f x i = let a = slot_pair par k x i in subst (Lacks m) a.2 (f (as_own a.0) (map_member as_own a.0 (nodes_below par k) a.1))

-- taking off

slots_up : (k : Kept) (x : ℕ) → Member x (slots k) → Member x (nodes_up k)
slots_up E x i = i
slots_up (A m r) x i = slots_up r x i
slots_up (W m v r) x i = slots_up r x i
slots_up (S n t r) x (inl e) = member_right x (nodes_up t ++ nodes_up r) (n.slot ∷ []) (inl e)
slots_up (S n t r) x (inr i) =
    member_left x (nodes_up t ++ nodes_up r) (n.slot ∷ []) (⊎_elim
    (λ (j : Member x (slots t)). member_left x (nodes_up t) (nodes_up r) (slots_up t x j))
    (λ (j : Member x (slots r)). member_right x (nodes_up t) (nodes_up r) (slots_up r x j))
    (member_cases x (slots t) (slots r) i))
slots_up (P n t r) x (inl e) = member_right x (nodes_up t ++ nodes_up r) (n.slot ∷ []) (inl e)
slots_up (P n t r) x (inr i) =
    member_left x (nodes_up t ++ nodes_up r) (n.slot ∷ []) (⊎_elim
    (λ (j : Member x (slots t)). member_left x (nodes_up t) (nodes_up r) (slots_up t x j))
    (λ (j : Member x (slots r)). member_right x (nodes_up t) (nodes_up r) (slots_up r x j))
    (member_cases x (slots t) (slots r) i))
slots_up (R b t) x (inl e) = member_right x (nodes_up t) (b.node.slot ∷ []) (inl e)
slots_up (R b t) x (inr i) = member_left x (nodes_up t) (b.node.slot ∷ []) (slots_up t x i)

tops_left : (t r : Kept) (x : ℕ) → Member x (tops t ++ tops r) → Member x (slots t ++ slots r)
tops_left t r x i =
    ⊎_elim
    (λ (j : Member x (tops t)). member_left x (slots t) (slots r) (top_in t x j))
    (λ (j : Member x (tops r)). member_right x (slots t) (slots r) (top_in r x j))
    (member_cases x (tops t) (tops r) i)

-- what stands below a node of a record is of the record
child_in : (m : MarksView) (k : Kept) → Families m k → (x : ℕ) → Member x (slots k) → (o : OwnView) → Member o m.own → o.parent ≡ Some x → IsKept m o.node.slot → Member o.node.slot (slots k)
child_in m E f x i o j e k = absurd i
child_in m (A h r) f x i o j e k = child_in m r f x i o j e k
child_in m (W h v r) f x i o j e k = child_in m r f x i o j e k
child_in m (S n t r) f x (inl s) o j e k = inr (tops_left t r o.node.slot (f.0 o j (e ∙ ap Some (sym s)) k))
child_in m (S n t r) f x (inr i) o j e k =
    inr (⊎_elim
    (λ (a : Member x (slots t)). member_left o.node.slot (slots t) (slots r) (child_in m t f.1 x a o j e k))
    (λ (a : Member x (slots r)). member_right o.node.slot (slots t) (slots r) (child_in m r f.2 x a o j e k))
    (member_cases x (slots t) (slots r) i))
child_in m (P n t r) f x (inl s) o j e k = inr (tops_left t r o.node.slot (f.0 o j (e ∙ ap Some (sym s)) k))
child_in m (P n t r) f x (inr i) o j e k =
    inr (⊎_elim
    (λ (a : Member x (slots t)). member_left o.node.slot (slots t) (slots r) (child_in m t f.1 x a o j e k))
    (λ (a : Member x (slots r)). member_right o.node.slot (slots t) (slots r) (child_in m r f.2 x a o j e k))
    (member_cases x (slots t) (slots r) i))
child_in m (R b t) f x (inl s) o j e k = inr (top_in t o.node.slot (f.0 o j (e ∙ ap Some (sym s)) k))
child_in m (R b t) f x (inr i) o j e k = inr (child_in m t f.1 x i o j e k)

-- what a pass makes it doesn't share
pub unshared_on : (m n : MarksView) (us inside : List ℕ) → Passed m n us inside → Unshared m → Unshared n
unshared_on m n us inside p apart o e i j s =
    let k : Member e m.shared = subst (Member e) p.shared j in
    ⊎_elim
    (λ (a : Member o m.own). apart o e a k s)
    (λ (a : Member o p.made). p.new o a (shared_place e) (place_shared m e k) (sym s))
    (p.own o i)

-- a block whose record is taken off, and whose mark is cleared
module _ (m : MarksView) (us : List ℕ) (above : Option Handle) (b : Reading) (t : Kept) (p : Planted m us above (R b t)) where
  -- its record taken off
  abbrev pub bared : MarksView
  bared = dropping (nodes_up t) m

  abbrev pub ready : MarksView
  ready = cleared b.node.slot bared

  still : (x : ℕ) → times x ready.dropped ≡ times x m.dropped + times x (nodes_up t)
  still x = times_both x m.dropped (nodes_up t)

  gone_not : (x : ℕ) → Member x (slots t) → IsKept ready x → ⊥
  gone_not x i k = let a = times_member x (nodes_up t) (slots_up t x i) in let c = still x in absurd (omega (arith, a, c, k))

  pub kept_before : (x : ℕ) → IsKept ready x → IsKept m x
  kept_before x k = let c = still x in omega (arith, c, k)

  pub kept_now : (x : ℕ) → (Member x (slots t) → ⊥) → IsKept m x → IsKept ready x
  kept_now x out k = let c = still x in let a = times_none x (nodes_up t) (λ i. out (up_in t x i)) in omega (arith, a, c, k)

  abbrev block_here : Here m b.node.slot
  block_here = node_at m above (R b t) p.nodes b.node.slot (inl refl)

  pub bare_owns : Owns bared b.node
  bare_owns = (record { node = b.node; parent = slot_of above }, p.nodes.0.0, refl)

  -- each child of the block is dropped
  pub bare_block : Bare bared b.node.slot
  bare_block o i e k = absurd (gone_not o.node.slot (top_in t o.node.slot (p.families.0 o i e (kept_before o.node.slot k))) k)

  pub block_kept : Keeps ready b.node
  block_kept = (own_place m.claims.branch (record { node = b.node; parent = slot_of above }), place_own m (record { node = b.node; parent = slot_of above }) p.nodes.0.0, refl, kept_now b.node.slot p.once.0 block_here.kept)

  pub ready_rooted : Rooted m → Unshared m → Rooted ready
  ready_rooted r apart =
      record {
        kept = λ c x i k e.
            let a = r.kept c x i (kept_before c.node.slot k) e in
            (kept_now x (λ j. gone_not c.node.slot (child_in m t p.families.1 x j c i e (kept_before c.node.slot k)) k) a.0, a.1);
        dropped = λ x d. elim (zero_or (times x m.dropped)) [
          | inr c ↦ r.dropped x (omega (arith, c))
          | inl z ↦
              let h = node_at m (Some b.node) t p.nodes.1 x (up_in t x (times_found x (nodes_up t) (let c = still x in omega (arith, c, z, d)))) in
              (h.own, h.is, h.slot)
        ];
        shared = λ e i. kept_now e.node.slot (λ j. let h = node_at m (Some b.node) t p.nodes.1 e.node.slot j in apart h.own e h.is i h.slot) (r.shared e i);
        labels = r.labels;
      }

  -- and in place of it another, whose nodes are new
  module _ (n : MarksView) (u : Kept) (reads : List Seen) (rooted : Rooted m) (more : MoreNodes ready n (map as_own (nodes_below (Some b.node) u))) (once : Once u) (new : (x : ℕ) → Member x (slots u) → Lacks m x) (marks : MoreMarks ready n) (within : (x : ℕ) → times x ready.marked < times x n.marked → Member x us) where
    abbrev made : List OwnView
    made = map as_own (nodes_below (Some b.node) u)

    made_pair : (o : OwnView) → Member o made → (q : Pair) × Member q (nodes_below (Some b.node) u) × (as_own q ≡ o)
    made_pair o i = member_map as_own o (nodes_below (Some b.node) u) i

    pair_made : (q : Pair) → Member q (nodes_below (Some b.node) u) → Member (as_own q) made
    pair_made q i = map_member as_own q (nodes_below (Some b.node) u) i

    own_cases : (o : OwnView) → Member o n.own → Member o m.own ⊎ Member o made
    own_cases = sum_cases own_tests n.own m.own made more.own

    own_made : (o : OwnView) → Member o made → Member o n.own
    own_made = sum_right own_tests n.own m.own made more.own

    made_new : (o : OwnView) → Member o made → Lacks m o.node.slot
    made_new o i = let a = made_pair o i in new o.node.slot (slot_is a.0 o (slots u) a.2 (pair_slot (Some b.node) u a.0 a.1))

    kept_ready : (x : ℕ) → IsKept n x → IsKept ready x
    kept_ready x k = sym (more.dropped x) ∙ k

    new_not : (x : ℕ) → Member x (slots u) → Has (places m) x → ⊥
    new_not x i h = lacks_not m x (new x i) h

    node_not_new : Member b.node.slot (slots u) → ⊥
    node_not_new i = new_not b.node.slot i (own_has m b.node.slot block_here)

    raised : Beyond ready.marked n.marked
    raised = beyond ready.marked n.marked marks.marked

    raised_in : (x : ℕ) → Member x raised.more → Member x us
    raised_in x i = within x (let a = times_member x raised.more i in let c = raised.counts x in omega (arith, a, c))

    not_raised : (x : ℕ) → (Member x us → ⊥) → times x n.marked ≡ times x ready.marked
    not_raised x out = let a = times_none x raised.more (λ i. out (raised_in x i)) in let c = raised.counts x in omega (arith, a, c)

    else_one : (x : ℕ) → (Member x (b.node.slot ∷ slots t) → ⊥) → x ≢ b.node.slot
    else_one x out e = out (inl (sym e))

    again_below : (o : OwnView) (x : ℕ) → Member o made → o.parent ≡ Some x → Member x (b.node.slot ∷ slots t) ⊎ IsMade made x
    again_below o x i e =
        let a = made_pair o i in
        ⊎_elim
        (λ (c : (a.0.1 ≡ Some b.node) × Member a.0.0.slot (tops u)). inl (inl (parent_of a.0 o x b.node a.2 e c.0)))
        (λ (c : (h : Handle) × (a.0.1 ≡ Some h) × Member h.slot (slots u)).
        let d = slot_pair (Some b.node) u c.0.slot c.2 in
        inr (as_own d.0, pair_made d.0 d.1, d.2 ∙ parent_of a.0 o x c.0 a.2 e c.1))
        (pair_below (Some b.node) u a.0 a.1)

    pub passed_again : Passed m n us (b.node.slot ∷ slots t)
    passed_again =
        record {
          made = made;
          gone = nodes_up t;
          raised = raised.more;
          branch = more.branch;
          shared = more.shared;
          keeps = more.has;
          own = own_cases;
          has = own_made;
          new = made_new;
          below = again_below;
          dropped = λ x. more.dropped x ∙ still x;
          gone_is = λ x i. inr (up_in t x i);
          marked = λ x out. let c = raised.counts x in let d = times_else x b.node.slot m.marked (else_one x out) in omega (arith, c, d);
          raised_is = λ x i. inl (raised_in x i);
          busy = λ x out c.
              marks.busy x (elim c [
                | inl a ↦ inl (let d = times_else x b.node.slot m.marked (else_one x out) in omega (arith, a, d))
                | inr a ↦ inr (let d = times_else x b.node.slot m.busy (else_one x out) in omega (arith, a, d))
              ]);
        }

    new_sits : (q : Pair) → Member q (nodes_below (Some b.node) u) → Sits n q.1 q.0
    new_sits q i =
        let x = q.0.slot in
        let lacks = new x (pair_slot (Some b.node) u q i) in
        (own_made (as_own q) (pair_made q i), more.dropped x ∙ kept_now x (λ j. let h = node_at m (Some b.node) t p.nodes.1 x j in lacks_not m x lacks (own_has m x h)) (lacks_kept x lacks))
      where
        lacks_kept : (x : ℕ) → Lacks m x → IsKept m x
        lacks_kept x l =
            elim (zero_or (times x m.dropped)) [
              | inl z ↦ z
              | inr c ↦ let o = rooted.dropped x (omega (arith, c)) in absurd (lacks_not m x l (own_place m.claims.branch o.0, place_own m o.0 o.1, o.2))
            ]

    again_children : Children n b.node.slot (tops u)
    again_children o i e k =
        ⊎_elim
        (λ (j : Member o m.own). absurd (gone_not o.node.slot (top_in t o.node.slot (p.families.0 o j e (kept_before o.node.slot (kept_ready o.node.slot k)))) (kept_ready o.node.slot k)))
        (λ (j : Member o made).
        let a = made_pair o j in
        ⊎_elim
        (λ (c : (a.0.1 ≡ Some b.node) × Member a.0.0.slot (tops u)). slot_is a.0 o (tops u) a.2 c.1)
        (λ (c : (h : Handle) × (a.0.1 ≡ Some h) × Member h.slot (slots u)). absurd (node_not_new (subst (λ y. Member y (slots u)) (parent_of a.0 o b.node.slot c.0 a.2 e c.1) c.2)))
        (pair_below (Some b.node) u a.0 a.1))
        (own_cases o i)

    again_closed : Closed n (Some b.node) u
    again_closed x o i j e k =
        ⊎_elim
        (λ (a : Member o m.own). absurd (new_not x i (rooted.kept o x a (kept_before o.node.slot (kept_ready o.node.slot k)) e).1))
        (λ (a : Member o made). made_pair o a)
        (own_cases o j)

    none_new : NoneMarked n (b.node.slot ∷ slots u)
    none_new x (inl e) =
        subst (λ z. times z n.marked ≡ 0) e (not_raised b.node.slot (λ i. p.apart b.node.slot i (inl refl)) ∙ times_gone b.node.slot m.marked)
    none_new x (inr i) =
        not_raised x (λ j. new_not x i (p.known x j).0) ∙
        (times_else x b.node.slot m.marked (λ e. node_not_new (subst (λ z. Member z (slots u)) e i)) ∙
        elim (zero_or (times x m.marked)) [ inl z ↦ z | inr c ↦ absurd (new_not x i (p.had x (omega (arith, c)))) ])

    pub replanted_again : Replanted m n us above (R b t) (R (record b { reads = reads }) u)
    replanted_again =
        record {
          passed = passed_again;
          nodes = ((more.has (record { node = b.node; parent = slot_of above }) p.nodes.0.0, more.dropped b.node.slot ∙ kept_now b.node.slot p.once.0 block_here.kept), nodes_made n (Some b.node) u new_sits);
          families = (again_children, families_made n (Some b.node) u once (over_some b.node u node_not_new) again_closed);
          once = (node_not_new, once);
          tops_are = refl;
          unmarked = none_new;
          covers = λ x i. elim i [ inl e ↦ inl (inl e) | inr j ↦ inr (new x j) ];
        }
