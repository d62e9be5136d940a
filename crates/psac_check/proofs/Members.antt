-- Which names are in lists, and what two sides write.
use Rattle.std.proofs.Common.{◌≡◌, ℕ, ◌==◌, ◌&&◌, ◌||◌, Bool, true, false, not, List, [], ◌∷◌, ◌++◌, ◌⊎◌, inl, inr, refl, ap, sym, ◌∙◌, arith}
use Rattle.std.proofs.lemmas.Bool.Decides.{nat_tests}
use Rattle.std.proofs.lemmas.List.Folds.{list_any-append}
use Rattle.std.specs.List.{list_all}
use Rattle.psac_model.specs.Series.{has, all_in, without}

test_or : (b : Bool) → (b ≡ true) ⊎ (b ≡ false)
test_or true = inl refl
test_or false = inr refl

nat_is : (m n : ℕ) → (m == n) ≡ true → m ≡ n
nat_is m n h = grind (arith, nat_tests)

nat_same : (n : ℕ) → (n == n) ≡ true
nat_same n = grind (arith, nat_tests)

pub has_append : (x : ℕ) (xs ys : List ℕ) → has x (xs ++ ys) ≡ (has x xs || has x ys)
has_append x xs ys = list_any-append (λ y. y == x) xs ys

dropped : (q more a b : Bool) → (q ≡ true → a ≡ b) → a ≡ true → (more && not b) ≡ ((q || more) && not b)
dropped q more a b h t = grind arith

taken : (q more a b : Bool) → (q ≡ true → a ≡ b) → a ≡ false → (q || (more && not b)) ≡ ((q || more) && not b)
taken q more a b h t = grind arith

pub has_without : (x : ℕ) (xs ys : List ℕ) → has x (without xs ys) ≡ (has x ys && not (has x xs))
has_without x xs [] = refl
has_without x xs (y ∷ ys) =
    let same : (y == x) ≡ true → has y xs ≡ has x xs = λ e. ap (λ z. has z xs) (nat_is y x e) in
    elim (test_or (has y xs)) [
      | inl t ↦ rw t (has_without x xs ys ∙ dropped (y == x) (has x ys) (has y xs) (has x xs) same t)
      | inr t ↦ rw t (ap (λ z. (y == x) || z) (has_without x xs ys) ∙ taken (y == x) (has x ys) (has y xs) (has x xs) same t)
    ]

apart_one : (w a b : Bool) → a ≡ true → (w || (a && not b)) ≡ (w || not b)
apart_one w a b h = grind arith

first_has : (x y : ℕ) (xs : List ℕ) → has y xs ≡ true → has y (x ∷ xs) ≡ true
first_has x y xs h = rw h (or_true (x == y))
  where
    or_true : (b : Bool) → (b || true) ≡ true
    or_true true = refl
    or_true false = refl

-- what was written before, or isn't written by the other side
pub apart_all : (w first second xs : List ℕ) → ((x : ℕ) → has x xs ≡ true → has x first ≡ true) → list_all (λ x. has x (w ++ without second first)) xs ≡ list_all (λ x. has x w || not (has x second)) xs
apart_all w first second [] h = refl
apart_all w first second (x ∷ xs) h =
    let here : has x first ≡ true = h x (rw (nat_same x) refl) in
    let one : has x (w ++ without second first) ≡ (has x w || not (has x second)) =
    has_append x w (without second first) ∙ ap (λ z. has x w || z) (has_without x second first) ∙ apart_one (has x w) (has x first) (has x second) here in
    let rest = apart_all w first second xs (λ y k. h y (first_has x y xs k)) in
    rw (one, rest) refl

pub apart_is : (w first second : List ℕ) → all_in first (w ++ without second first) ≡ list_all (λ x. has x w || not (has x second)) first
apart_is w first second = apart_all w first second first (λ x k. k)
