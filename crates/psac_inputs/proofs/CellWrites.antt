-- Writes of single cells.
use Rattle.std.proofs.Common.{◌≡◌, ℕ, zero, suc, List, [], ◌∷◌, ◌∙◌, length, refl, sym, ap, Option, Some, None}
use Rattle.std.specs.Prelude.{All, option_and_then, slice_get, slice_set}
use Rattle.std.proofs.lemmas.List.{length-set, set-set, set_comm}
use Rattle.std.proofs.lemmas.List.Elements.{All-cons, All-head, All-tail}
use Rattle.psac_ops.specs.declared.plain.Plain.{Plain}
use Rattle.psac_inputs.specs.Grid.{row_with}

-- the rows with another value in one cell
abbrev pub written : ℕ → ℕ → Plain → List (List Plain) → List (List Plain)
written r c v rows = slice_set rows r (row_with c v (slice_get rows r))

abbrev pub read : ℕ → ℕ → List (List Plain) → Option Plain
read r c rows = option_and_then (λ row. slice_get row c) (slice_get rows r)

-- two places that aren't the same
abbrev pub Apart : ℕ → ℕ → ℕ → ℕ → Type 0
Apart r c s d = r ≡ s → c ≡ d → ⊥

get-set_other : {X : Type 0} (xs : List X) (i j : ℕ) (x : X) → (j ≡ i → ⊥) → slice_get (slice_set xs i x) j ≡ slice_get xs j
get-set_other [] i j x apart = refl
get-set_other (y ∷ ys) zero zero x apart = absurd (apart refl)
get-set_other (y ∷ ys) zero (suc j) x apart = refl
get-set_other (y ∷ ys) (suc i) zero x apart = refl
get-set_other (y ∷ ys) (suc i) (suc j) x apart = get-set_other ys i j x (λ e. apart (ap suc e))

set-get : {X : Type 0} (xs : List X) (i : ℕ) (x : X) → slice_get xs i ≡ Some x → slice_set xs i x ≡ xs
set-get [] i x is = refl
set-get (y ∷ ys) zero x is = let e : y ≡ x = cc in ap (λ z. z ∷ ys) (sym e)
set-get (y ∷ ys) (suc i) x is = ap (λ zs. y ∷ zs) (set-get ys i x is)

pub get-set : {X : Type 0} (xs : List X) (i : ℕ) (x y : X) → slice_get xs i ≡ Some y → slice_get (slice_set xs i x) i ≡ Some x
get-set [] i x y is = absurd (let e : None ≡ Some y = is in cc)
get-set (z ∷ zs) zero x y is = refl
get-set (z ∷ zs) (suc i) x y is = get-set zs i x y is

-- writes of two cells, in either order
pub written_comm : (r c s d : ℕ) (v u : Plain) (rows : List (List Plain)) → Apart r c s d
    → written r c v (written s d u rows) ≡ written s d u (written r c v rows)
written_comm r c s d v u [] apart = refl
written_comm zero c zero d v u (row ∷ rows) apart = ap (λ x. x ∷ rows) (set_comm row d c u v (λ e. apart refl (sym e)))
written_comm zero c (suc s) d v u (row ∷ rows) apart = refl
written_comm (suc r) c zero d v u (row ∷ rows) apart = refl
written_comm (suc r) c (suc s) d v u (row ∷ rows) apart = ap (λ x. row ∷ x) (written_comm r c s d v u rows (λ e f. apart (ap suc e) f))

-- the last write of a cell wins
pub written_twice : (r c : ℕ) (v u : Plain) (rows : List (List Plain)) → written r c v (written r c u rows) ≡ written r c v rows
written_twice r c v u [] = refl
written_twice zero c v u (row ∷ rows) = ap (λ x. x ∷ rows) (set-set row c u v)
written_twice (suc r) c v u (row ∷ rows) = ap (λ x. row ∷ x) (written_twice r c v u rows)

-- a write of what is there
pub written_same : (r c : ℕ) (v : Plain) (rows : List (List Plain)) → read r c rows ≡ Some v → written r c v rows ≡ rows
written_same r c v [] is = refl
written_same zero c v (row ∷ rows) is = ap (λ x. x ∷ rows) (set-get row c v is)
written_same (suc r) c v (row ∷ rows) is = ap (λ x. row ∷ x) (written_same r c v rows is)

-- what another cell holds
pub read_other : (r c s d : ℕ) (v : Plain) (rows : List (List Plain)) → Apart r c s d → read r c (written s d v rows) ≡ read r c rows
read_other r c s d v [] apart = refl
read_other zero c zero d v (row ∷ rows) apart = get-set_other row d c v (λ e. apart refl e)
read_other zero c (suc s) d v (row ∷ rows) apart = refl
read_other (suc r) c zero d v (row ∷ rows) apart = refl
read_other (suc r) c (suc s) d v (row ∷ rows) apart = read_other r c s d v rows (λ e f. apart (ap suc e) f)

-- a write leaves as many rows, as long as they were
pub length-written : (r c : ℕ) (v : Plain) (rows : List (List Plain)) → length (written r c v rows) ≡ length rows
length-written r c v rows = length-set rows r (row_with c v (slice_get rows r))

pub even-written : (cols r c : ℕ) (v : Plain) (rows : List (List Plain)) → All (λ row. length row ≡ cols) rows
    → All (λ row. length row ≡ cols) (written r c v rows)
even-written cols r c v [] even = even
even-written cols zero c v (row ∷ rows) even =
    All-cons (λ row. length row ≡ cols) (slice_set row c v) rows (length-set row c v ∙ All-head (λ row. length row ≡ cols) row rows even) (All-tail (λ row. length row ≡ cols) row rows even)
even-written cols (suc r) c v (row ∷ rows) even =
    All-cons (λ row. length row ≡ cols) row (written r c v rows) (All-head (λ row. length row ≡ cols) row rows even) (even-written cols r c v rows (All-tail (λ row. length row ≡ cols) row rows even))
