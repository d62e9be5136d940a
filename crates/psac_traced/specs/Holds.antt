-- What the reads of a record saw.
use Rattle.std.specs.Prelude.{◌≡◌, Bool, List, [], ◌∷◌, ◌++◌, map, Some}
use Rattle.psac_ops.specs.Value.{Value}
use Rattle.psac_model.specs.Tree.{Reads}
use Rattle.psac_traced.specs.Rec.{Rec, E, A, W, S, P, R, HeapOf, held_by, writes}

-- the modifiables that were read
abbrev pub read_names : {N : Type 0} → Reads N → List N
read_names {N} = map (λ (r : N × Value N). r.0)

-- this is so of each modifiable that was read, with its value
abbrev pub EachOf : {N : Type 0} → (N → Value N → Type 0) → Reads N → Type 0
EachOf Q [] = Unit {0}
EachOf Q (r ∷ rs) = Q r.0 r.1 × EachOf Q rs

abbrev pub EachRead : {N : Type 0} → (N → Value N → Type 0) → Rec N → Type 0
EachRead Q E = Unit {0}
EachRead Q (A m r) = EachRead Q r
EachRead Q (W m v r) = EachRead Q r
EachRead Q (S t r) = EachRead Q t × EachRead Q r
EachRead Q (P l r) = EachRead Q l × EachRead Q r
EachRead Q (R room block env reads t) = EachOf Q reads × EachRead Q t

module _ {N : Type 0} (same : N → N → Bool) where
  -- each modifiable that was read has this value here
  abbrev pub Sees : HeapOf N → Reads N → Type 0
  Sees heap = EachOf (λ m v. held_by same heap m ≡ Some v)

  -- each read of the record gives the same over this heap
  abbrev pub Holds : HeapOf N → Rec N → Type 0
  Holds heap E = Unit {0}
  Holds heap (A m r) = Holds heap r
  Holds heap (W m v r) = Holds ((m, v) ∷ heap) r
  Holds heap (S t r) = Holds heap t × Holds (writes t ++ heap) r
  Holds heap (P l r) = Holds heap l × Holds (writes l ++ heap) r
  Holds heap (R room block env reads t) = Sees heap reads × Holds heap t
