-- Beginnings of one list.
use Rattle.std.proofs.Common.{◌≡◌, ℕ, zero, suc, ◌≤◌, ◌⊎◌, inl, inr, ⊎_elim, List, [], ◌∷◌, ◌++◌, length, Some, slice_get, refl, ap, sym, ◌∙◌, arith, append_assoc}
use mathlib.Core.List.{IsPrefix}

pub prefix_refl : {A : Type 0} (xs : List A) → IsPrefix xs xs
prefix_refl [] = ([], refl)
prefix_refl (x ∷ xs) = let rest = prefix_refl xs in (rest.0, ap (λ l. x ∷ l) rest.1)

pub prefix_then : {A : Type 0} (xs ys zs : List A) → IsPrefix xs ys → IsPrefix ys zs → IsPrefix xs zs
prefix_then xs ys zs p q = (p.0 ++ q.0, sym (append_assoc xs p.0 q.0) ∙ (ap (λ l. l ++ q.0) p.1 ∙ q.1))

-- of two beginnings of one list the one that isn't longer begins the other
pub shorter_begins : {A : Type 0} (xs ys zs : List A) → IsPrefix xs zs → IsPrefix ys zs → length xs ≤ length ys → IsPrefix xs ys
shorter_begins [] ys zs p q le = (ys, refl)
shorter_begins (x ∷ xs) [] zs p q le = absurd (omega arith)
shorter_begins (x ∷ xs) (y ∷ ys) [] p q le = absurd (cc (p.1))
shorter_begins (x ∷ xs) (y ∷ ys) (z ∷ zs) p q le =
    let same : x ≡ y = cc (p.1, q.1) in
    let rest = shorter_begins xs ys zs (p.0, cc (p.1)) (q.0, cc (q.1)) (omega arith) in
    (rest.0, cc (same, rest.1))

-- a beginning that isn't shorter is the whole
pub whole_of : {A : Type 0} (xs ys : List A) → IsPrefix xs ys → length ys ≤ length xs → xs ≡ ys
whole_of [] [] p le = refl
whole_of [] (y ∷ ys) p le = absurd (omega arith)
whole_of (x ∷ xs) [] p le = absurd (cc (p.1))
whole_of (x ∷ xs) (y ∷ ys) p le = let rest = whole_of xs ys (p.0, cc (p.1)) (omega arith) in cc (p.1, rest)

-- what stands in a beginning stands in the whole, at the same place
pub stands : {A : Type 0} (xs ys : List A) (k : ℕ) (x : A) → IsPrefix xs ys → slice_get xs k ≡ Some x → slice_get ys k ≡ Some x
stands [] ys k x p at = absurd cc
stands (y ∷ xs) [] k x p at = absurd (cc (p.1))
stands (y ∷ xs) (z ∷ ys) zero x p at = cc (p.1, at)
stands (y ∷ xs) (z ∷ ys) (suc k) x p at = stands xs ys k x (p.0, cc (p.1)) at

-- what stands in a list with one more stands in the list, or is that one
pub at_end : {A : Type 0} (xs : List A) (y : A) (k : ℕ) (x : A) → slice_get (xs ++ y ∷ []) k ≡ Some x → (slice_get xs k ≡ Some x) ⊎ ((k ≡ length xs) × (y ≡ x))
at_end [] y zero x at = inr (refl, cc at)
at_end [] y (suc k) x at = absurd (cc at)
at_end (z ∷ xs) y zero x at = inl at
at_end (z ∷ xs) y (suc k) x at = ⊎_elim (λ here. inl here) (λ there. inr (ap suc there.0, there.1)) (at_end xs y k x at)
