-- What holds of a kept record comes out of a truncation.
use Rattle.std.proofs.Common.{◌≡◌, ◌⊎◌, ℕ, ◌≤◌, ◌<◌, ◌==◌, true, false, List, [], ◌∷◌, Option, Some, None, ◌++◌, refl, ap, ◌∙◌, subst, inl, inr, arith}
use Rattle.std.specs.Prelude.{sum_by}
use Rattle.std.proofs.Math.Logic.{∥∥₁_elim}
use Rattle.std.proofs.Props.{props}
use Rattle.psac_ops.specs.declared.plain.Handle.{Handle}
use Rattle.psac_ops.specs.declared.plain.Plain.{Plain}
use Rattle.psac_slots.specs.Handles.{Member}
use Rattle.psac_values.specs.declared.view.ValueView.{ValueView}
use Rattle.psac_readers.specs.declared.view.ReadersView.{ReadersView}
use Rattle.psac_marks.specs.declared.view.OwnView.{OwnView}
use Rattle.psac_marks.specs.declared.view.MarksView.{MarksView}
use Rattle.psac_marks.specs.Marked.{Place, places}
use Rattle.psac_marks.specs.Passes.{slot_of}
use Rattle.psac_inputs.specs.Grid.{Grid}
use Rattle.psac_model.specs.Fresh.{World}
use Rattle.psac_laws.proofs.Places.{nat_is, nat_same, test_or, not_both}
use Rattle.psac_record.specs.Kept.{Kept, E, A, W, S, P, R, bare}
use Rattle.psac_trace.specs.Fit.{Rooted}
use Rattle.psac_trace.proofs.Heaps.{in_or_not, in_and_none}
use Rattle.psac_trace.proofs.Leading.{member_sum, sum_member, zero_or}
use Rattle.psac_repair.specs.Marks.{Sits, Nodes}
use Rattle.psac_repair.specs.Planted.{tops, Once, Children, Families}
use Rattle.psac_stage.specs.Places.{base_heap}
use Rattle.psac_stage.specs.Recorded.{LeftBy, HasMade, HasNodes, HasLinks, Recorded}
use Rattle.psac_stage.proofs.Changing.{member_or}
use Rattle.psac_stage.proofs.First.{same_own, own_itself, own_is}

nat_set : IsSet ℕ
nat_set = Prim.hlevel props

plain_set : IsSet (Option Plain)
plain_set = Prim.hlevel props

-- what is refused is refused still
not_out : {A : Type 0} → ∥ A ∥₁ → (A → ⊥) → ⊥
not_out t f = ∥∥₁_elim t (λ x y. absurd x) f

nat_out : {A : Type 0} → ∥ A ∥₁ → {x y : ℕ} → (A → x ≡ y) → x ≡ y
nat_out t f = ∥∥₁_elim t (nat_set _ _) f

less_out : {A : Type 0} → ∥ A ∥₁ → (x y : ℕ) → (A → x < y) → x < y
less_out t x y f = ∥∥₁_elim t (Prim.hlevel props) f

most_out : {A : Type 0} → ∥ A ∥₁ → (x y : ℕ) → (A → x ≤ y) → x ≤ y
most_out t x y f = ∥∥₁_elim t (Prim.hlevel props) f

-- what stands in a list
slot_out : {A : Type 0} → ∥ A ∥₁ → (x : ℕ) (xs : List ℕ) → (A → Member x xs) → Member x xs
slot_out t x xs f = elim (member_or x xs) [ inl i ↦ i | inr out ↦ absurd (not_out t (λ a. out (f a))) ]

own_out : {A : Type 0} → ∥ A ∥₁ → (o : OwnView) (xs : List OwnView) → (A → Member o xs) → Member o xs
own_out t o xs f =
    elim (zero_or (sum_by (same_own o) xs)) [
      | inl z ↦ absurd (not_out t (λ a. let here = member_sum (same_own o) o xs (f a) (let e = own_itself o in omega (arith, e)) in
          omega (arith, here, z)))
      | inr more ↦ (let b = sum_member (same_own o) xs more in subst (λ x. Member x xs) (own_is o b.0 b.2) b.1)
    ]

-- a list has an element of the slot or not
slot_or : {X : Type 0} (slot : X → ℕ) (xs : List X) (s : ℕ)
    → ((x : X) × Member x xs × (slot x ≡ s)) ⊎ ((x : X) × Member x xs × (slot x ≡ s) → ⊥)
slot_or slot [] s = inr (λ h. h.1)
slot_or slot (y ∷ xs) s =
    elim (test_or (slot y == s)) [
      | inl t ↦ inl (y, inl refl, nat_is (slot y) s t)
      | inr t ↦
          elim (slot_or slot xs s) [
            | inl h ↦ inl (h.0, inr h.1, h.2)
            | inr out ↦ inr (λ h. none out t h.0 h.1 h.2)
          ]
    ]
  where
    none : ((x : _) × Member x xs × (slot x ≡ s) → ⊥) → (slot y == s) ≡ false → (x : _) → Member x (y ∷ xs) → slot x ≡ s → ⊥
    none out t x (inl q) e = not_both (ap (λ z. slot z == s) q ∙ subst (λ n. (slot x == n) ≡ true) e (nat_same (slot x))) t
    none out t x (inr i) e = out (x, i, e)

find_out : {A X : Type 0} → ∥ A ∥₁ → (slot : X → ℕ) (xs : List X) (s : ℕ) → (A → (x : X) × Member x xs × (slot x ≡ s))
    → (x : X) × Member x xs × (slot x ≡ s)
find_out t slot xs s f = elim (slot_or slot xs s) [ inl h ↦ h | inr out ↦ absurd (not_out t (λ a. out (f a))) ]

-- nodes
module _ {T : Type 0} (t : ∥ T ∥₁) (m : MarksView) where
  sits_out : (above : Option Handle) (n : Handle) → (T → Sits m above n) → Sits m above n
  sits_out above n f = (own_out t (record { node = n; parent = slot_of above }) m.own (λ a. (f a).0), nat_out t (λ a. (f a).1))

  nodes_out : (above : Option Handle) (k : Kept) → (T → Nodes m above k) → Nodes m above k
  nodes_out above E f = tt
  nodes_out above (A h r) f = nodes_out above r f
  nodes_out above (W h v r) f = nodes_out above r f
  nodes_out above (S n l r) f = (sits_out above n (λ a. (f a).0), nodes_out (Some n) l (λ a. (f a).1), nodes_out (Some n) r (λ a. (f a).2))
  nodes_out above (P n l r) f = (sits_out above n (λ a. (f a).0), nodes_out (Some n) l (λ a. (f a).1), nodes_out (Some n) r (λ a. (f a).2))
  nodes_out above (R b u) f = (sits_out above b.node (λ a. (f a).0), nodes_out (Some b.node) u (λ a. (f a).1))

  children_out : (x : ℕ) (ys : List ℕ) → (T → Children m x ys) → Children m x ys
  children_out x ys f o i e k = slot_out t o.node.slot ys (λ a. f a o i e k)

  families_out : (k : Kept) → (T → Families m k) → Families m k
  families_out E f = tt
  families_out (A h r) f = families_out r f
  families_out (W h v r) f = families_out r f
  families_out (S n l r) f = (
    children_out n.slot (tops l ++ tops r) (λ a. (f a).0),
    families_out l (λ a. (f a).1),
    families_out r
        (λ a. (f a).2),
  )
  families_out (P n l r) f = (
    children_out n.slot (tops l ++ tops r) (λ a. (f a).0),
    families_out l (λ a. (f a).1),
    families_out r
        (λ a. (f a).2),
  )
  families_out (R b u) f = (children_out b.node.slot (tops u) (λ a. (f a).0), families_out u (λ a. (f a).1))

  once_out : (k : Kept) → (T → Once k) → Once k
  once_out E f = tt
  once_out (A h r) f = once_out r f
  once_out (W h v r) f = once_out r f
  once_out (S n l r) f = (
    λ i. not_out t (λ a. (f a).0 i),
    λ x i j. not_out t (λ a. (f a).1 x i j),
    once_out l (λ a. (f a).2),
    once_out
        r (λ a. (f a).3),
  )
  once_out (P n l r) f = (
    λ i. not_out t (λ a. (f a).0 i),
    λ x i j. not_out t (λ a. (f a).1 x i j),
    once_out l (λ a. (f a).2),
    once_out
        r (λ a. (f a).3),
  )
  once_out (R b u) f = (λ i. not_out t (λ a. (f a).0 i), once_out u (λ a. (f a).1))

  rooted_out : (T → Rooted m) → Rooted m
  rooted_out f =
      record {
        kept = λ c p i h e. (
          nat_out t (λ a. ((f a).kept c p i h e).0),
          find_out t (λ (x : Place). x.node.slot) (places m) p
              (λ a. ((f a).kept c p i h e).1),
        );
        dropped = λ x d. find_out t (λ (o : OwnView). o.node.slot) m.own x (λ a. (f a).dropped x d);
        shared = λ e i. nat_out t (λ a. (f a).shared e i);
        labels = λ e i. less_out t _ _ (λ a. (f a).labels e i);
      }

  pub nodes_of_out : (k : Kept) → (T → HasNodes k m) → HasNodes k m
  nodes_of_out k f =
      record {
        out = λ g. nat_out t (λ a. (f a).out g);
        nodes = nodes_out None k (λ a. (f a).nodes);
        families = families_out k (λ a. (f a).families);
        once = once_out k (λ a. (f a).once);
        rooted = rooted_out (λ a. (f a).rooted);
        fits = λ x i. less_out t x 4294967296 (λ a. (f a).fits x i);
        unmarked = λ x. nat_out t (λ a. (f a).unmarked x);
        undropped = λ x. nat_out t (λ a. (f a).undropped x);
      }

-- values and links
module _ {T : Type 0} (t : ∥ T ∥₁) (k : Kept) where
  plain_out : (x y : Option Plain) → (T → x ≡ y) → x ≡ y
  plain_out x y f = ∥∥₁_elim t (plain_set x y) f

  pub made_out : (v : ValueView) → (T → HasMade k v) → HasMade k v
  made_out v f =
      record {
        out = λ g. nat_out t (λ a. (f a).out g);
        once = λ s. most_out t _ 1 (λ a. (f a).once s);
        mine = λ o i h. less_out t 0 _ (λ a. (f a).mine o i h);
        made = λ m i. ∥∥₁_elim t (Prim.hlevel props) (λ a. (f a).made m i);
        wrote = λ m x i. plain_out _ _ (λ a. (f a).wrote m x i);
        read = λ s i. plain_out _ _ (λ a. (f a).read s i);
      }

  pub links_out : (r : ReadersView) → (T → HasLinks k r) → HasLinks k r
  links_out r f =
      record {
        links = λ g. nat_out t (λ a. (f a).links g);
        holds = record { held = λ l. nat_out t (λ a. (f a).holds.held l); inside = λ m l h. nat_out t (λ a. (f a).holds.inside m l h) };
      }

-- where that a run may leave the record comes out, all does
pub recorded_out : (w : World) (g : Grid) (k : Kept) (v : ValueView) (r : ReadersView) (m : MarksView)
    → (∥ LeftBy w g (bare k) ∥₁ → LeftBy w g (bare k)) → ∥ Recorded w g k v r m ∥₁ → Recorded w g k v r m
recorded_out w g k v r m traced t =
    let base = base_heap g w.main.dests in
    record {
      left_it = traced (∥∥₁_elim t squash₁ (λ a. ∣ a.left_it ∣₁));
      fresh = λ h i. elim (in_or_not base h) [
        | inl j ↦ absurd (not_out t (λ a. in_and_none base h j (a.fresh h i)))
        | inr n ↦ n
      ];
      values = made_out t k v (λ a. a.values);
      nodes = nodes_of_out t m k (λ a. a.nodes);
      links = links_out t k r (λ a. a.links);
    }
