-- The record of a run: its tree, with the modifiable that each `new` made.
use Rattle.std.specs.Prelude.{ℕ, Bool, if◌then◌else◌, List, [], ◌∷◌, ◌++◌, Option, Some, None}
use Rattle.psac_ops.specs.Value.{Value}
use Rattle.psac_model.specs.Names.{Env}
use Rattle.psac_model.specs.Tree.{Tree, Reads}
use Rattle.psac_model.specs.Tree as tree

pub data Rec (N : Type 0) : Type 0 where
  E : Rec N
  A : (m : N) (rest : Rec N) → Rec N
  W : (m : N) (v : Value N) (rest : Rec N) → Rec N
  S : (t rest : Rec N) → Rec N
  P : (l r : Rec N) → Rec N
  -- room is how many levels its body might go deeper
  R : (room block : ℕ) (env : Env N) (reads : Reads N) (t : Rec N) → Rec N

abbrev pub tree_of : {N : Type 0} → Rec N → Tree N
tree_of E = tree.E
tree_of (A m rest) = tree.A (tree_of rest)
tree_of (W m v rest) = tree.W m v (tree_of rest)
tree_of (S t rest) = tree.S (tree_of t) (tree_of rest)
tree_of (P l r) = tree.P (tree_of l) (tree_of r)
tree_of (R room block env reads t) = tree.R block env reads (tree_of t)

-- modifiables with their values; the first pair of a modifiable counts
abbrev pub HeapOf : Type 0 → Type 0
HeapOf N = List (N × Value N)

abbrev pub held_by : {N : Type 0} → (N → N → Bool) → HeapOf N → N → Option (Value N)
held_by same [] m = None
held_by same (pair ∷ more) m = if same pair.0 m then Some pair.1 else held_by same more m

-- what was written, the last first
abbrev pub writes : {N : Type 0} → Rec N → HeapOf N
writes E = []
writes (A m rest) = writes rest
writes (W m v rest) = writes rest ++ (m, v) ∷ []
writes (S t rest) = writes rest ++ writes t
writes (P l r) = writes r ++ writes l
writes (R room block env reads t) = writes t
