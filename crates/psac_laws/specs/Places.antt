-- The parts of a tree by their paths, and in which order they stand.
use Rattle.std.specs.Prelude.{◌≡◌, ◌⊎◌, ℕ, Bool, true, false, ◌==◌, ◌&&◌, ◌||◌, nat_lt, if◌then◌else◌, List, [], ◌∷◌, Option, Some, None}
use Rattle.psac_ops.specs.Value.{Value}
use Rattle.psac_model.specs.Names.{Path, Name, Input, Rows, Env}
use Rattle.psac_model.specs.Tree.{Tree, E, A, W, S, P, R, Reads}

-- the part at a path
abbrev pub part_at : Path → Tree Name → Option (Tree Name)
part_at [] t = Some t
part_at (x ∷ p) E = None
part_at (x ∷ p) (A rest) = if x == 3 then part_at p rest else None
part_at (x ∷ p) (W m v rest) = if x == 3 then part_at p rest else None
part_at (x ∷ p) (S t rest) = if x == 0 then part_at p t else (if x == 1 then part_at p rest else None)
part_at (x ∷ p) (P l r) = if x == 0 then part_at p l else (if x == 1 then part_at p r else None)
part_at (x ∷ p) (R block env reads t) = if x == 2 then part_at p t else None

-- a part stands before what is under it, and t before its rest and l before r
abbrev pub stands_before : Path → Path → Bool
stands_before p [] = false
stands_before [] (y ∷ q) = true
stands_before (x ∷ p) (y ∷ q) = nat_lt x y || ((x == y) && stands_before p q)

-- one path goes to one side of a P, and the other path to the other side
abbrev pub parted : Tree Name → Path → Path → Bool
parted (A rest) (x ∷ p) (y ∷ q) = parted rest p q
parted (W m v rest) (x ∷ p) (y ∷ q) = parted rest p q
parted (S t rest) (x ∷ p) (y ∷ q) = (x == y) && (if x == 0 then parted t p q else parted rest p q)
parted (P l r) (x ∷ p) (y ∷ q) = if x == y then (if x == 0 then parted l p q else parted r p q) else true
parted (R block env reads t) (x ∷ p) (y ∷ q) = parted t p q
parted _ _ _ = false

abbrev pub IsIn : {X : Type 0} → X → List X → Type 0
IsIn x [] = ⊥
IsIn x (y ∷ ys) = (y ≡ x) ⊎ IsIn x ys

-- a write of a name stands before a block, and no P has the write on one side and the block on the other
pub record WrittenBefore (tree : Tree Name) (at : Path) (m : Name) (v : Value Name) : Type 0 where
  pub place : Path
  pub more : Tree Name
  pub is : part_at place tree ≡ Some (W m v more)
  pub before : stands_before place at ≡ true
  pub together : parted tree place at ≡ false

-- two parts that write one name are one part
abbrev pub WritesOnce : Tree Name → Type 0
WritesOnce tree =
    (m : Name) (p q : Path) (v u : Value Name) (x y : Tree Name) → part_at p tree ≡ Some (W m v x) → part_at q tree ≡ Some (W m u y) → p ≡ q

-- an input cell, or the number of rows
abbrev pub is_input : Name → Bool
is_input (Input r c) = true
is_input Rows = true
is_input _ = false

-- each block that reads a made name or an output stands after the write of the value that it reads
abbrev pub ReadsAfterWrites : Tree Name → Type 0
ReadsAfterWrites tree =
    (at : Path) (block : ℕ) (env : Env Name) (reads : Reads Name) (t : Tree Name) (m : Name) (v : Value Name) →
    part_at at tree ≡ Some (R block env reads t) → IsIn (m, v) reads → is_input m ≡ false → WrittenBefore tree at m v
