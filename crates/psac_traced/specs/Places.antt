-- The paths of the modifiables that a record made.
use Rattle.std.specs.Prelude.{◌≡◌, Bool, if◌then◌else◌, [], ◌∷◌, ◌++◌, ◌⊎◌}
use Rattle.psac_model.specs.Names.{Path, Name, Rows, Made}
use Rattle.psac_naming.specs.Naming.{Naming, IsNamed}
use Rattle.psac_traced.specs.Rec.{Rec, E, A, W, S, P, R}

-- each is named by its path
abbrev pub Placed : Path → Rec Name → Type 0
Placed p E = Unit {0}
Placed p (A m r) = (m ≡ Made p) × Placed (p ++ 3 ∷ []) r
Placed p (W m v r) = Placed (p ++ 3 ∷ []) r
Placed p (S t r) = Placed (p ++ 0 ∷ []) t × Placed (p ++ 1 ∷ []) r
Placed p (P l r) = Placed (p ++ 0 ∷ []) l × Placed (p ++ 1 ∷ []) r
Placed p (R room block env reads t) = Placed (p ++ 2 ∷ []) t

module _ {M : Type 0} where
  -- each with the name by its path
  abbrev pub names : Path → Rec M → Naming M
  names p E = []
  names p (A m r) = (m, Made p) ∷ names (p ++ 3 ∷ []) r
  names p (W m v r) = names (p ++ 3 ∷ []) r
  names p (S t r) = names (p ++ 0 ∷ []) t ++ names (p ++ 1 ∷ []) r
  names p (P l r) = names (p ++ 0 ∷ []) l ++ names (p ++ 1 ∷ []) r
  names p (R room block env reads t) = names (p ++ 2 ∷ []) t

  -- the record made the modifiable
  abbrev pub Makes : Rec M → M → Type 0
  Makes E k = ⊥
  Makes (A m r) k = (m ≡ k) ⊎ Makes r k
  Makes (W m v r) k = Makes r k
  Makes (S t r) k = Makes t k ⊎ Makes r k
  Makes (P l r) k = Makes l k ⊎ Makes r k
  Makes (R room block env reads t) k = Makes t k

  -- no modifiable was made twice
  abbrev pub IsApart : Rec M → Type 0
  IsApart E = Unit {0}
  IsApart (A m r) = (Makes r m → ⊥) × IsApart r
  IsApart (W m v r) = IsApart r
  IsApart (S t r) = IsApart t × IsApart r × ((m : M) → Makes t m → Makes r m → ⊥)
  IsApart (P l r) = IsApart l × IsApart r × ((m : M) → Makes l m → Makes r m → ⊥)
  IsApart (R room block env reads t) = IsApart t

  -- the modifiable has a name
  abbrev pub HasName : Naming M → M → Type 0
  HasName ns m = (n : Name) × IsNamed ns m n

  -- the first name of a modifiable
  abbrev pub name_in : (M → M → Bool) → Naming M → M → Name
  name_in same [] m = Rows
  name_in same (p ∷ ns) m = if same p.0 m then p.1 else name_in same ns m
