-- How many different numbers below a bound stand in a list.
use Rattle.std.proofs.Common.{◌≡◌, ℕ, suc, zero, ◌+◌, ◌<◌, ◌≤◌, ◌==◌, false, not, cond, List, [], ◌∷◌, map, length, refl, ap, sym, subst, inl, inr, arith}
use Rattle.std.specs.Prelude.{filter, sum_by}
use Rattle.std.proofs.lemmas.Bool.Decides.{nat_tests}
use Rattle.std.proofs.lemmas.List.Sums.{sum_by-cons}
use Rattle.psac_slots.specs.Handles.{once_below}
use Rattle.psac_slots.specs.Claiming.{times}
use Rattle.psac_laws.proofs.Places.{nat_is, nat_same, test_or}

abbrev others : ℕ → List ℕ → List ℕ
others n xs = filter (λ x. not (x == n)) xs

one_if : ℕ → ℕ → ℕ
one_if k x = cond (x == k) 1 0

times_cons : (k x : ℕ) (xs : List ℕ) → times k (x ∷ xs) ≡ cond (x == k) 1 0 + times k xs
times_cons k x xs = sum_by-cons (λ y. cond (y == k) 1 0) x xs

split_length : (n : ℕ) (xs : List ℕ) → length xs ≡ times n xs + length (others n xs)
split_length n [] = omega arith
split_length n (x ∷ xs) =
    let c = times_cons n x xs in
    let r = split_length n xs in
    elim (test_or (x == n)) [
      | inl t ↦
          (let z : ◌≡◌ {A = ℕ} (cond (x == n) 1 0) 1 = ap (λ b. cond b 1 0) t in
          let f : length (others n (x ∷ xs)) ≡ length (others n xs) = rw t refl in
          omega (arith, c, r, z, f))
      | inr t ↦
          (let z : ◌≡◌ {A = ℕ} (cond (x == n) 1 0) 0 = ap (λ b. cond b 1 0) t in
          let f : length (others n (x ∷ xs)) ≡ suc (length (others n xs)) = rw t refl in
          omega (arith, c, r, z, f))
    ]

times_others : (k n : ℕ) (xs : List ℕ) → (n == k) ≡ false → times k (others n xs) ≡ times k xs
times_others k n [] d = refl
times_others k n (x ∷ xs) d =
    let c = times_cons k x xs in
    let r = times_others k n xs d in
    elim (test_or (x == n)) [
      | inl t ↦
          (let z : ◌≡◌ {A = ℕ} (cond (x == k) 1 0) 0 = ap (λ b. cond b 1 0) (subst (λ y. (y == k) ≡ false) (sym (nat_is x n t)) d) in
          rw t (omega (arith, c, r, z)))
      | inr t ↦ rw t (let e = times_cons k x (others n xs) in omega (arith, c, r, e))
    ]

times_gone : (n : ℕ) (xs : List ℕ) → times n (others n xs) ≡ 0
times_gone n [] = refl
times_gone n (x ∷ xs) =
    let r = times_gone n xs in
    elim (test_or (x == n)) [
      | inl t ↦ rw t r
      | inr t ↦
          rw t
          (let e = times_cons n x (others n xs) in
          let z : ◌≡◌ {A = ℕ} (cond (x == n) 1 0) 0 = ap (λ b. cond b 1 0) t in
          omega (arith, e, r, z))
    ]

once_less : (k n : ℕ) → (n == k) ≡ false → once_below k (suc n) ≤ once_below k n
once_less k n d = grind (arith, nat_tests)

once_here : (n : ℕ) → once_below n (suc n) ≤ 1
once_here n = grind (arith, nat_tests)

none_low : (k : ℕ) → once_below k 0 ≡ 0
none_low k = grind (arith, nat_tests)

pub once_low : (k n : ℕ) → 0 < once_below k n → k < n
once_low k n h = grind (arith, nat_tests)

once_is : (k n : ℕ) → k < n → once_below k n ≡ 1
once_is k n h = grind (arith, nat_tests)

-- no more different numbers than there are
pub count_most : (n : ℕ) (xs : List ℕ) → ((k : ℕ) → times k xs ≤ once_below k n) → length xs ≤ n
count_most zero [] h = omega arith
count_most zero (x ∷ xs) h =
    let c = times_cons x x xs in
    let z : ◌≡◌ {A = ℕ} (cond (x == x) 1 0) 1 = ap (λ b. cond b 1 0) (nat_same x) in
    absurd (omega (arith, h x, none_low x, c, z))
count_most (suc n) xs h =
    let r = count_most n (others n xs) (λ k. elim (test_or (n == k)) [
      | inl t ↦ (let z : times k (others n xs) ≡ 0 = subst (λ y. times y (others n xs) ≡ 0) (nat_is n k t) (times_gone n xs) in omega (arith, z))
      | inr t ↦ omega (arith, times_others k n xs t, h k, once_less k n t)
    ]) in
    omega (arith, r, split_length n xs, h n, once_here n)

-- no fewer than the numbers that all stand there
pub count_least : (n : ℕ) (xs : List ℕ) → ((k : ℕ) → k < n → 0 < times k xs) → n ≤ length xs
count_least zero xs h = omega arith
count_least (suc n) xs h =
    let r = count_least n (others n xs) (λ k l.
    let d : (n == k) ≡ false = differs n k (omega (arith, l)) in
    omega (arith, times_others k n xs d, h k (omega (arith, l)))) in
    omega (arith, r, split_length n xs, h n (omega arith))
  where
    differs : (a b : ℕ) → b < a → (a == b) ≡ false
    differs a b l = grind (arith, nat_tests)

-- what was drawn below a counter
pub drawn_long : (n : ℕ) (xs : List ℕ) → ((k : ℕ) → times k xs ≡ once_below k n) → n ≤ length xs
drawn_long n xs h = count_least n xs (λ k l. omega (arith, h k, once_is k n l))

pub sum_ones : {A : Type 0} (xs : List A) → sum_by (λ x. 1) xs ≡ length xs
sum_ones [] = refl
sum_ones (x ∷ xs) = let c = sum_by-cons (λ y. 1) x xs in let r = sum_ones xs in omega (arith, c, r)

pub sum_map : {A B : Type 0} (f : A → B) (g : B → ℕ) (xs : List A) → sum_by g (map f xs) ≡ sum_by (λ x. g (f x)) xs
sum_map f g [] = refl
sum_map f g (x ∷ xs) =
    let r = sum_map f g xs in
    let a = sum_by-cons g (f x) (map f xs) in
    let b = sum_by-cons (λ y. g (f y)) x xs in
    omega (arith, r, a, b)
