-- How the nodes of a record stand in a pass, and what going through a part of it leaves of nodes and marks.
use Rattle.std.specs.Prelude.{◌≡◌, ◌⊎◌, ℕ, ◌+◌, ◌<◌, List, [], ◌∷◌, ◌++◌, Option, Some}
use Rattle.psac_ops.specs.declared.plain.Handle.{Handle}
use Rattle.psac_slots.specs.Handles.{Member}
use Rattle.psac_slots.specs.Claiming.{times}
use Rattle.psac_marks.specs.declared.view.OwnView.{OwnView}
use Rattle.psac_marks.specs.declared.view.MarksView.{MarksView}
use Rattle.psac_marks.specs.Marked.{places, Has}
use Rattle.psac_marks.specs.Steps.{Lacks}
use Rattle.psac_marks.specs.Passes.{IsKept, IsBusy}
use Rattle.psac_record.specs.Kept.{Kept, E, A, W, S, P, R}
use Rattle.psac_repair.specs.Marks.{Nodes}

-- the slots of a record's nodes
abbrev pub slots : Kept → List ℕ
slots E = []
slots (A m r) = slots r
slots (W m v r) = slots r
slots (S n t r) = n.slot ∷ slots t ++ slots r
slots (P n l r) = n.slot ∷ slots l ++ slots r
slots (R b t) = b.node.slot ∷ slots t

-- of those nodes that stand below no other of the record
abbrev pub tops : Kept → List ℕ
tops E = []
tops (A m r) = tops r
tops (W m v r) = tops r
tops (S n t r) = n.slot ∷ []
tops (P n l r) = n.slot ∷ []
tops (R b t) = b.node.slot ∷ []

abbrev pub Apart : List ℕ → List ℕ → Type 0
Apart xs ys = (x : ℕ) → Member x xs → Member x ys → ⊥

-- no node stands twice in a record
abbrev pub Once : Kept → Type 0
Once E = Unit {0}
Once (A m r) = Once r
Once (W m v r) = Once r
Once (S n t r) = (Member n.slot (slots t ++ slots r) → ⊥) × Apart (slots t) (slots r) × Once t × Once r
Once (P n l r) = (Member n.slot (slots l ++ slots r) → ⊥) × Apart (slots l) (slots r) × Once l × Once r
Once (R b t) = (Member b.node.slot (slots t) → ⊥) × Once t

-- each child of the node that isn't dropped is one of these
abbrev pub Children : MarksView → ℕ → List ℕ → Type 0
Children m x ys = (o : OwnView) → Member o m.own → o.parent ≡ Some x → IsKept m o.node.slot → Member o.node.slot ys

-- the record has all that stands below its nodes
abbrev pub Families : MarksView → Kept → Type 0
Families m E = Unit {0}
Families m (A h r) = Families m r
Families m (W h x r) = Families m r
Families m (S n t r) = Children m n.slot (tops t ++ tops r) × Families m t × Families m r
Families m (P n l r) = Children m n.slot (tops l ++ tops r) × Families m l × Families m r
Families m (R b t) = Children m b.node.slot (tops t) × Families m t

-- none of these nodes is marked
abbrev pub NoneMarked : MarksView → List ℕ → Type 0
NoneMarked m xs = (x : ℕ) → Member x xs → times x m.marked ≡ 0

-- the nodes of a record stand below this one. Those outside are its ancestors, and what the walk comes to later
pub record Planted (m : MarksView) (us : List ℕ) (above : Option Handle) (k : Kept) : Type 0 where
  pub nodes : Nodes m above k
  pub families : Families m k
  pub once : Once k
  pub apart : Apart us (slots k)
  -- what is outside the pass has, and it isn't dropped
  pub known : (x : ℕ) → Member x us → Has (places m) x × IsKept m x
  -- what is marked the pass has
  pub had : (x : ℕ) → 0 < times x m.marked → Has (places m) x

abbrev pub IsMade : List OwnView → ℕ → Type 0
IsMade made x = (o : OwnView) × Member o made × (o.node.slot ≡ x)

-- nodes inside were gone through: some were dropped and others made in their place; marks were raised outside alone
pub record Passed (m n : MarksView) (us inside : List ℕ) : Type 0 where
  pub made : List OwnView
  pub gone : List ℕ
  pub raised : List ℕ
  pub branch : n.claims.branch ≡ m.claims.branch
  pub shared : n.shared ≡ m.shared
  pub keeps : (o : OwnView) → Member o m.own → Member o n.own
  pub own : (o : OwnView) → Member o n.own → Member o m.own ⊎ Member o made
  pub has : (o : OwnView) → Member o made → Member o n.own
  pub new : (o : OwnView) → Member o made → Lacks m o.node.slot
  pub below : (o : OwnView) (p : ℕ) → Member o made → o.parent ≡ Some p → Member p inside ⊎ IsMade made p
  pub dropped : (x : ℕ) → times x n.dropped ≡ times x m.dropped + times x gone
  pub gone_is : (x : ℕ) → Member x gone → Member x inside
  pub marked : (x : ℕ) → (Member x inside → ⊥) → times x n.marked ≡ times x m.marked + times x raised
  pub raised_is : (x : ℕ) → Member x raised → Member x us ⊎ Member x inside
  pub busy : (x : ℕ) → (Member x inside → ⊥) → IsBusy m x → IsBusy n x

-- what a repair leaves of a record's nodes
pub record Replanted (m n : MarksView) (us : List ℕ) (above : Option Handle) (old new : Kept) : Type 0 where
  pub passed : Passed m n us (slots old)
  pub nodes : Nodes n above new
  pub families : Families n new
  pub once : Once new
  pub tops_are : tops new ≡ tops old
  pub unmarked : NoneMarked n (slots new)
  -- each node was of the record before, or is new
  pub covers : (x : ℕ) → Member x (slots new) → Member x (slots old) ⊎ Lacks m x

-- both parts below a node, as they stand where both were gone through and the node wasn't yet cleared
pub record Halves (m x : MarksView) (us : List ℕ) (n : Handle) (t r u w : Kept) : Type 0 where
  pub passed : Passed m x (n.slot ∷ us) (slots t ++ slots r)
  pub nodes : Nodes x (Some n) u × Nodes x (Some n) w
  pub families : Families x u × Families x w
  pub once : Once u × Once w
  pub apart : Apart (slots u) (slots w)
  pub tops_are : (tops u ≡ tops t) × (tops w ≡ tops r)
  pub unmarked : NoneMarked x (slots u) × NoneMarked x (slots w)
  pub first_covers : (y : ℕ) → Member y (slots u) → Member y (slots t) ⊎ Lacks m y
  pub second_covers : (y : ℕ) → Member y (slots w) → Member y (slots r) ⊎ Lacks m y
