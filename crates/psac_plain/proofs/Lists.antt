-- Lists by places.
use Rattle.std.proofs.Common.{◌≡◌, ◌≢◌, ℕ, suc, zero, ◌+◌, ◌<◌, List, [], ◌∷◌, ◌++◌, length, drop, Some, None, slice_get, slice_set, refl, ap, ◌∙◌, arith, ◌⊎◌, inl, inr, zero-add}
use Rattle.std.proofs.lemmas.Option.{slice_get_within, get_or_from_slice_get}
use Rattle.std.proofs.Math.Seq.{drop-cons}

pub none_some : {X : Type 0} {x : X} → None ≡ Some x → ⊥
none_some h = cc

pub some_is : {X : Type 0} {x y : X} → Some x ≡ Some y → x ≡ y
some_is h = cc

pub same_or : (i j : ℕ) → (i ≡ j) ⊎ (i ≢ j)
same_or zero zero = inl refl
same_or zero (suc j) = inr (λ e. omega arith)
same_or (suc i) zero = inr (λ e. omega arith)
same_or (suc i) (suc j) = elim (same_or i j) [ inl e ↦ inl (ap suc e) | inr d ↦ inr (λ e. d (omega arith)) ]

pub get_here : {X : Type 0} (xs : List X) (i : ℕ) → i < length xs → (x : X) × (slice_get xs i ≡ Some x)
get_here [] i h = absurd (omega arith)
get_here (x ∷ xs) zero h = (x, refl)
get_here (x ∷ xs) (suc i) h = get_here xs i (omega arith)

pub get_before : {X : Type 0} (xs ys : List X) (i : ℕ) → i < length xs → slice_get (xs ++ ys) i ≡ slice_get xs i
get_before [] ys i h = absurd (omega arith)
get_before (a ∷ xs) ys zero h = refl
get_before (a ∷ xs) ys (suc i) h = get_before xs ys i (omega arith)

pub get_right : {X : Type 0} (xs ys : List X) (i : ℕ) → slice_get (xs ++ ys) (length xs + i) ≡ slice_get ys i
get_right [] ys i = rw (zero-add i) refl
get_right (a ∷ xs) ys i =
    let e : length (a ∷ xs) + i ≡ suc (length xs + i) = omega arith in
    rw e (get_right xs ys i)

pub get_after : {X : Type 0} (xs ys : List X) (n i : ℕ) → n ≡ length xs → slice_get (xs ++ ys) (n + i) ≡ slice_get ys i
get_after xs ys n i e = rw e (get_right xs ys i)

pub get_set_within : {X : Type 0} (xs : List X) (i : ℕ) (v : X) → i < length xs → slice_get (slice_set xs i v) i ≡ Some v
get_set_within [] i v h = absurd (omega arith)
get_set_within (a ∷ xs) zero v h = refl
get_set_within (a ∷ xs) (suc i) v h = get_set_within xs i v (omega arith)

pub get_set_other : {X : Type 0} (xs : List X) (i j : ℕ) (v : X) → i ≢ j → slice_get (slice_set xs i v) j ≡ slice_get xs j
get_set_other [] i j v h = refl
get_set_other (a ∷ xs) zero zero v h = absurd (h refl)
get_set_other (a ∷ xs) zero (suc j) v h = refl
get_set_other (a ∷ xs) (suc i) zero v h = refl
get_set_other (a ∷ xs) (suc i) (suc j) v h = get_set_other xs i j v (λ e. h (ap suc e))

-- an item, and those from the next on
pub drop_at : {X : Type 0} (xs : List X) (i : ℕ) (x : X) → slice_get xs i ≡ Some x → drop i xs ≡ x ∷ drop (suc i) xs
drop_at xs i x h =
    drop-cons xs i x (slice_get_within xs i x h) ∙ ap (λ y. y ∷ drop (suc i) xs) (get_or_from_slice_get xs i x x h)
