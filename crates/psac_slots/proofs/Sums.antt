-- Sums over the views of a table.
use Rattle.psac_slots.proofs.Terms.{◌≡◌, ◌≢◌, ◌⊎◌, ℕ, zero, suc, ◌+◌, ◌<◌, ◌≤◌, List, [], ◌∷◌, ◌++◌, length, set, take, drop, Bool, cond, ltb, refl, sym, ap, ◌∙◌, subst, inl, inr, ⊎_elim, arith, sum_by, ◌==◌, sum_by-cons, lt-ltb, le-ltb, eq-eqb, ne_eqb, cases_order, some, some-ne-none, some-injective, get_elem?, at_set, at_snoc}

module _ {A : Type 0} where
  pub sum_set : (f : A → ℕ) (l : List A) (i : ℕ) (v w : A) → get_elem? l i ≡ some v → sum_by f (set l i w) + f v ≡ sum_by f l + f w
  sum_set f [] i v w e = absurd (some-ne-none v (sym e))
  sum_set f (x ∷ xs) zero v w e = let same : f x ≡ f v = ap f (some-injective x v e) in omega (arith, sum_by-cons f w xs, sum_by-cons f x xs)
  sum_set f (x ∷ xs) (suc i) v w e = omega (arith, sum_by-cons f x (set xs i w), sum_by-cons f x xs, sum_set f xs i v w e)

  pub sum_at : (f : A → ℕ) (l : List A) (i : ℕ) (v : A) → get_elem? l i ≡ some v → f v ≤ sum_by f l
  sum_at f [] i v e = absurd (some-ne-none v (sym e))
  sum_at f (x ∷ xs) zero v e = let same : f x ≡ f v = ap f (some-injective x v e) in omega (arith, sum_by-cons f x xs)
  sum_at f (x ∷ xs) (suc i) v e = omega (arith, sum_by-cons f x xs, sum_at f xs i v e)

  pub sum_two : (f : A → ℕ) (l : List A) (i j : ℕ) (v w : A) → i ≢ j → get_elem? l i ≡ some v → get_elem? l j ≡ some w → f v + f w ≤ sum_by f l
  sum_two f [] i j v w n e d = absurd (some-ne-none v (sym e))
  sum_two f (x ∷ xs) zero zero v w n e d = absurd (n refl)
  sum_two f (x ∷ xs) zero (suc j) v w n e d = let same : f x ≡ f v = ap f (some-injective x v e) in omega (arith, sum_by-cons f x xs, sum_at f xs j w d)
  sum_two f (x ∷ xs) (suc i) zero v w n e d = let same : f x ≡ f w = ap f (some-injective x w d) in omega (arith, sum_by-cons f x xs, sum_at f xs i v e)
  sum_two f (x ∷ xs) (suc i) (suc j) v w n e d = omega (arith, sum_by-cons f x xs, sum_two f xs i j v w (λ p. n (ap suc p)) e d)

  pub sum_le : (f g : A → ℕ) (l : List A) → ((i : ℕ) (v : A) → get_elem? l i ≡ some v → f v ≤ g v) → sum_by f l ≤ sum_by g l
  sum_le f g [] h = omega arith
  sum_le f g (x ∷ xs) h = omega (arith, sum_by-cons f x xs, sum_by-cons g x xs, h 0 x refl, sum_le f g xs (λ i v e. h (suc i) v e))

  pub sum_none : (f : A → ℕ) (xs : List A) → ((j : ℕ) (u : A) → get_elem? xs j ≡ some u → f u ≡ 0) → sum_by f xs ≡ 0
  sum_none f [] h = refl
  sum_none f (x ∷ xs) h = omega (arith, sum_by-cons f x xs, h 0 x refl, sum_none f xs (λ j u e. h (suc j) u e))

  pub all_set : (F : ℕ → A → Type 0) (l : List A) (i : ℕ) (w : A) → F i w → ((j : ℕ) (u : A) → j ≢ i → get_elem? l j ≡ some u → F j u) → (j : ℕ) (u : A) → get_elem? (set l i w) j ≡ some u → F j u
  all_set F l i w mine others j u e = ⊎_elim (λ (x : (j ≡ i) × (w ≡ u)). subst (λ (y : ℕ × A). F y.0 y.1) (λ k. (sym x.0 k, x.1 k)) mine)
      (λ (x : (j ≢ i) × (get_elem? l j ≡ some u)). others j u x.0 x.1) (at_set l i j w u e)

  pub all_end : (F : ℕ → A → Type 0) (views : List A) (r : A) → ((j : ℕ) (u : A) → get_elem? views j ≡ some u → F j u) → ((j : ℕ) → F j r) → (j : ℕ) (u : A) → get_elem? (views ++ r ∷ []) j ≡ some u → F j u
  all_end F views r h mine j u e = ⊎_elim (λ x. h j u x) (λ (same : r ≡ u). subst (F j) same (mine j)) (at_snoc views r u j e)

  pub cut_one : (n : ℕ) (l : List A) → drop n l ≡ take 1 (drop n l) ++ drop (suc n) l
  cut_one zero [] = refl
  cut_one zero (x ∷ xs) = refl
  cut_one (suc n) [] = refl
  cut_one (suc n) (x ∷ xs) = cut_one n xs

  -- an index of a list that is one longer: it is an old one, or the last
  pub at_new : (l : List A) (r u : A) (j : ℕ) → get_elem? (l ++ r ∷ []) j ≡ some u → ((j < length l) × (get_elem? l j ≡ some u)) ⊎ ((j ≡ length l) × (r ≡ u))
  at_new [] r u zero e = inr (refl, some-injective r u e)
  at_new [] r u (suc j) e = absurd (some-ne-none u (sym e))
  at_new (x ∷ l) r u zero e = inl (omega arith, e)
  at_new (x ∷ l) r u (suc j) e = ⊎_elim (λ (p : (j < length l) × (get_elem? l j ≡ some u)). inl ((let q = p.0 in omega (arith, q)), p.1)) (λ (p : (j ≡ length l) × (r ≡ u)). inr (ap suc p.0, p.1)) (at_new l r u j e)

  pub at_drop : (l : List A) (c k : ℕ) → get_elem? (drop c l) k ≡ get_elem? l (c + k)
  at_drop l zero k = ap (λ (i : ℕ). get_elem? l i) (omega arith)
  at_drop [] (suc c) k = let e : suc c + k ≡ suc (c + k) = omega arith in sym (ap (λ (i : ℕ). get_elem? {A = A} [] i) e)
  at_drop (x ∷ l) (suc c) k = let e : suc c + k ≡ suc (c + k) = omega arith in at_drop l c k ∙ sym (ap (λ (i : ℕ). get_elem? (x ∷ l) i) e)

  pub at_less : (l : List A) (k : ℕ) (x : A) → get_elem? l k ≡ some x → k < length l
  at_less [] k x e = absurd (some-ne-none x (sym e))
  at_less (y ∷ l) zero x e = omega arith
  at_less (y ∷ l) (suc k) x e = let g = at_less l k x e in omega (arith, g)

-- a truth as a number
abbrev pub bit : Bool → ℕ
bit b = cond b 1 0

once : (k n : ℕ) → (n ≡ k) ⊎ ((n < k) ⊎ (k < n)) → cond (ltb k (suc n)) 1 0 ≡ cond (ltb k n) 1 0 + cond (n == k) 1 0
once k n (inl e) = rw (lt-ltb k (suc n) (omega arith), le-ltb k n (omega arith), eq-eqb n k e) refl
once k n (inr (inl l)) = rw (le-ltb k (suc n) (omega arith), le-ltb k n (omega arith), ne_eqb n k (λ e. absurd (omega arith))) refl
once k n (inr (inr l)) = rw (lt-ltb k (suc n) (omega arith), lt-ltb k n (omega arith), ne_eqb n k (λ e. absurd (omega arith))) refl

pub once_below_more : (k n : ℕ) → cond (ltb k (suc n)) 1 0 ≡ cond (ltb k n) 1 0 + cond (n == k) 1 0
once_below_more k n = once k n (cases_order n k)
