-- Equations between records, and what they are made of, have at most one proof.
use Rattle.std.proofs.Common.{◌≡◌, ◌⊎◌, ℕ, Bool, true, false, refl, ap, sym, ◌∙◌, inl, inr}
use Rattle.std.proofs.Props.{props}
use mathlib.Core.HLevel.{Discrete, hedberg, collapsible→set, Unit-prop}
use Rattle.psac_ops.specs.declared.plain.Handle.{Handle}
use Rattle.psac_ops.specs.Value.{Value}
use Rattle.psac_model.specs.declared.ends.End.{End}
use Rattle.psac_model.specs.Names.{Env, Name}
use Rattle.psac_model.specs.Tree.{Tree, Reads}
use Rattle.psac_model.specs.Tree as tree
use Rattle.psac_naming.specs.Naming.{IsSameTest}
use Rattle.psac_traced.specs.Rec.{Rec, E, A, W, S, P, R}

pub end_set : IsSet End
end_set = Prim.hlevel props

pub handle_set : IsSet Handle
handle_set = Prim.hlevel props

pub name_set : IsSet Name
name_set = Prim.hlevel props

-- a type that maps into a set and back
pub retract_set : {X Y : Type 0} (to : X → Y) (from : Y → X) → ((x : X) → from (to x) ≡ x) → IsSet Y → IsSet X
retract_set to from back set = collapsible→set (λ x y p. sym (back x) ∙ ap from (ap to p) ∙ back y)
    (λ x y p q. ap (λ z. sym (back x) ∙ ap from z ∙ back y) (set (to x) (to y) (ap to p) (ap to q)))

-- a tree with a label at each node
data Shape (L : Type 0) : Type 0 where
  leaf : Shape L
  node : (label : L) (left right : Shape L) → Shape L
  deriving IsSet as Shape_set

abbrev RecLabel : Type 0 → Type 0
RecLabel N = N ⊎ ((N × Value N) ⊎ (Bool ⊎ (ℕ × ℕ × Env N × Reads N)))

abbrev TreeLabel : Type 0 → Type 0
TreeLabel N = Unit {0} ⊎ ((N × Value N) ⊎ (Bool ⊎ (ℕ × Env N × Reads N)))

module _ {N : Type 0} where
  abbrev rec_shape : Rec N → Shape (RecLabel N)
  rec_shape E = leaf
  rec_shape (A m r) = node (inl m) leaf (rec_shape r)
  rec_shape (W m v r) = node (inr (inl (m, v))) leaf (rec_shape r)
  rec_shape (S t r) = node (inr (inr (inl true))) (rec_shape t) (rec_shape r)
  rec_shape (P l r) = node (inr (inr (inl false))) (rec_shape l) (rec_shape r)
  rec_shape (R room block env reads t) = node (inr (inr (inr (room, block, env, reads)))) leaf (rec_shape t)

  abbrev shape_rec : Shape (RecLabel N) → Rec N
  shape_rec leaf = E
  shape_rec (node (inl m) l r) = A m (shape_rec r)
  shape_rec (node (inr (inl w)) l r) = W w.0 w.1 (shape_rec r)
  shape_rec (node (inr (inr (inl true))) l r) = S (shape_rec l) (shape_rec r)
  shape_rec (node (inr (inr (inl false))) l r) = P (shape_rec l) (shape_rec r)
  shape_rec (node (inr (inr (inr b))) l r) = R b.0 b.1 b.2 b.3 (shape_rec r)

  rec_back : (r : Rec N) → shape_rec (rec_shape r) ≡ r
  rec_back E = refl
  rec_back (A m r) = ap (A m) (rec_back r)
  rec_back (W m v r) = ap (W m v) (rec_back r)
  rec_back (S t r) = λ i. S (rec_back t i) (rec_back r i)
  rec_back (P l r) = λ i. P (rec_back l i) (rec_back r i)
  rec_back (R room block env reads t) = ap (R room block env reads) (rec_back t)

  abbrev tree_shape : Tree N → Shape (TreeLabel N)
  tree_shape tree.E = leaf
  tree_shape (tree.A t) = node (inl tt) leaf (tree_shape t)
  tree_shape (tree.W m v t) = node (inr (inl (m, v))) leaf (tree_shape t)
  tree_shape (tree.S t r) = node (inr (inr (inl true))) (tree_shape t) (tree_shape r)
  tree_shape (tree.P l r) = node (inr (inr (inl false))) (tree_shape l) (tree_shape r)
  tree_shape (tree.R block env reads t) = node (inr (inr (inr (block, env, reads)))) leaf (tree_shape t)

  abbrev shape_tree : Shape (TreeLabel N) → Tree N
  shape_tree leaf = tree.E
  shape_tree (node (inl u) l r) = tree.A (shape_tree r)
  shape_tree (node (inr (inl w)) l r) = tree.W w.0 w.1 (shape_tree r)
  shape_tree (node (inr (inr (inl true))) l r) = tree.S (shape_tree l) (shape_tree r)
  shape_tree (node (inr (inr (inl false))) l r) = tree.P (shape_tree l) (shape_tree r)
  shape_tree (node (inr (inr (inr b))) l r) = tree.R b.0 b.1 b.2 (shape_tree r)

  tree_back : (t : Tree N) → shape_tree (tree_shape t) ≡ t
  tree_back tree.E = refl
  tree_back (tree.A t) = ap tree.A (tree_back t)
  tree_back (tree.W m v t) = ap (tree.W m v) (tree_back t)
  tree_back (tree.S t r) = λ i. tree.S (tree_back t i) (tree_back r i)
  tree_back (tree.P l r) = λ i. tree.P (tree_back l i) (tree_back r i)
  tree_back (tree.R block env reads t) = ap (tree.R block env reads) (tree_back t)

  module _ (set : IsSet N) where
    pub value_set : IsSet (Value N)
    value_set = Prim.hlevel (props, set)

    pub env_set : IsSet (Env N)
    env_set = Prim.hlevel (props, value_set)

    pub reads_set : IsSet (Reads N)
    reads_set = Prim.hlevel (props, value_set, set)

    pub rec_set : IsSet (Rec N)
    rec_set = retract_set rec_shape shape_rec rec_back (Shape_set (Prim.hlevel (props, set, value_set, env_set, reads_set)))

    pub tree_set : IsSet (Tree N)
    tree_set = retract_set tree_shape shape_tree tree_back (Shape_set (Prim.hlevel (props, Unit-prop, set, value_set, env_set, reads_set)))

  -- names that a test tells apart
  told : (same : N → N → Bool) → IsSameTest same → (m n : N) (b : Bool) → same m n ≡ b → Dec (m ≡ n)
  told same is m n true e = yes (is.alone m n e)
  told same is m n false e = no (λ p. absurd (let z : false ≡ true = sym e ∙ ap (same m) (sym p) ∙ is.itself m in cc))

  pub same_discrete : (same : N → N → Bool) → IsSameTest same → Discrete N
  same_discrete same is m n = told same is m n (same m n) refl

  pub same_set : (same : N → N → Bool) → IsSameTest same → IsSet N
  same_set same is = hedberg (same_discrete same is)
