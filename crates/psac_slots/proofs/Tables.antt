-- What the tables that stand on these claims need alike: options, lists, and entries of a ring.
use Rattle.psac_slots.proofs.Terms.{◌≡◌, ℕ, zero, suc, ◌+◌, ◌/◌, ◌%◌, ◌<◌, ◌≤◌, ◌*◌, List, [], ◌∷◌, ◌++◌, map, length, set, take, drop, cond, ltb, refl, sym, ap, ◌∙◌, inl, ⊎_elim, arith, Option, Some, None, sum_by, cases_lt, le-ltb, lt-ltb, length-map, sum_by-cons, some, some-ne-none, some-injective, get_elem?, ClaimView, Handle, Member, word_of, fresh, slot_times, once_below, Claimed, entry, place}
use Rattle.psac_slots.proofs.Sums.{at_new, bit}
use Rattle.psac_slots.proofs.Removed.{member_times, at_most_once, length-fresh}

pub one_more : (n : ℕ) → n + 1 ≡ suc n
one_more n = omega arith

pub twice : (m n : ℕ) → m ≡ n → 2 * m ≡ 2 * n
twice m n e = ap (λ k. 2 * k) e

module _ {A : Type 0} where
  pub none_some : (a : A) → ◌≡◌ {A = Option A} None (Some a) → ⊥
  none_some a e = absurd (cc)

  pub same_some : (a b : A) → ◌≡◌ {A = Option A} (Some a) (Some b) → a ≡ b
  same_some a b e = cc

  pub none_in : (l : List A) → ((x : A) → Member x l → ⊥) → l ≡ []
  none_in [] f = refl
  none_in (x ∷ l) f = absurd (f x (inl refl))

  -- the entry that changed
  pub set_there : (l : List A) (i : ℕ) (v w : A) → get_elem? l i ≡ some v → get_elem? (set l i w) i ≡ some w
  set_there [] i v w e = absurd (some-ne-none v (sym e))
  set_there (x ∷ xs) zero v w e = refl
  set_there (x ∷ xs) (suc i) v w e = set_there xs i v w e

  pub dropped_at : (l : List A) (c : ℕ) (x : A) → Member x (drop c l) → (k : ℕ) × (c ≤ k) × (get_elem? l k ≡ some x)
  dropped_at [] zero x m = absurd m
  dropped_at [] (suc c) x m = absurd m
  dropped_at (y ∷ l) zero x m = ⊎_elim (λ e. (0, omega arith, ap some e)) (λ r. let q = dropped_at l zero x r in (suc q.0, omega arith, q.2)) m
  dropped_at (y ∷ l) (suc c) x m = let q = dropped_at l c x m in let le = q.1 in (suc q.0, omega (arith, le), q.2)

  pub first_same : (x y : A) (l : List A) → Member x (take 1 l) → Member y (take 1 l) → x ≡ y
  first_same x y [] m n = absurd m
  first_same x y (z ∷ l) m n = ⊎_elim (λ e. ⊎_elim (λ f. sym e ∙ f) (λ b. absurd b) n) (λ b. absurd b) m

  pub at_past : (l m : List A) (k : ℕ) → get_elem? (l ++ m) (length l + k) ≡ get_elem? m k
  at_past [] m k = ap (λ i. get_elem? {A = A} m i) (omega arith)
  at_past (x ∷ l) m k = ap (λ i. get_elem? {A = A} (x ∷ (l ++ m)) i) (one_up (length l) k) ∙ at_past l m k
    where
      one_up : (n k : ℕ) → suc n + k ≡ suc (n + k)
      one_up n k = omega arith

module _ {A B : Type 0} where
  pub at_mapped : (f : A → B) (l : List A) (j : ℕ) (r : B) → get_elem? (map f l) j ≡ some r → (u : A) × (get_elem? l j ≡ some u) × (f u ≡ r)
  at_mapped f [] j r e = absurd (some-ne-none r (sym e))
  at_mapped f (u ∷ l) zero r e = (u, refl, some-injective (f u) r e)
  at_mapped f (u ∷ l) (suc j) r e = at_mapped f l j r e

  pub sum_map : (f : A → B) (g : B → ℕ) (l : List A) → sum_by g (map f l) ≡ sum_by (λ x. g (f x)) l
  sum_map f g [] = refl
  sum_map f g (x ∷ l) = omega (arith, sum_by-cons g (f x) (map f l), sum_by-cons (λ y. g (f y)) x l, sum_map f g l)

-- the handle of a word
abbrev pub handle_at : ℕ → Handle
handle_at word = record { slot = word % 4294967296; generation = word / 4294967296 }

-- the place that the code computes
pub place_is : (head n count a m b : ℕ) → head ≡ a → n ≡ m → count ≡ b → (head + n) % count + 1 ≡ place b (a + m)
place_is head n count a m b e f g = one_more _ ∙ (λ j. suc ((e j + f j) % g j))

-- past the list a claim finds nothing
pub past_entry : (list : List Handle) (n : ℕ) → length list ≤ n → entry list n ≡ []
past_entry [] zero l = refl
past_entry [] (suc n) l = refl
past_entry (x ∷ list) zero l = absurd (omega (arith, l))
past_entry (x ∷ list) (suc n) l = past_entry list n (omega (arith, l))

-- and one below the room leaves no index past it
pub within : (n over room : ℕ) → n < room → over ≡ 0 → over + cond (ltb n room) 0 1 ≡ 0
within n over room l e = rw (lt-ltb n room l) (omega (arith, e))

pub fresh_at : (n k : ℕ) (x : Handle) → get_elem? (fresh n) k ≡ some x → (x.slot < n) × (x.generation ≡ 1)
fresh_at zero k x e = absurd (some-ne-none x (sym e))
fresh_at (suc n) k x e = ⊎_elim
    (λ (p : (k < length (fresh n)) × (get_elem? (fresh n) k ≡ some x)). let q = fresh_at n k x p.1 in let l = q.0 in (omega (arith, l), q.1))
    (λ (p : (k ≡ length (fresh n)) × (record { slot = n; generation = 1 } ≡ x)). (let s = ap (λ (h : Handle). h.slot) p.1 in omega (arith, s), sym (ap (λ (h : Handle). h.generation) p.1)))
    (at_new (fresh n) (record { slot = n; generation = 1 }) x k e)

pub ring_length : (n : ℕ) → length (map word_of (fresh n)) ≡ n
ring_length n = let a = length-map (fresh n) word_of in let b = length-fresh n in omega (arith, a, b)

-- what counts as one of the slots below n is one
pub slot_below : (s n : ℕ) → 0 < once_below s n → s < n
slot_below s n p = ⊎_elim (λ l. l) (λ (g : n ≤ s). let z : once_below s n ≡ 0 = ap bit (le-ltb s n g) in absurd (omega (arith, p, z))) (cases_lt s n)

module _ (count c head : ℕ) (list : List Handle) (words : List ℕ) (views : List ClaimView) (h : Claimed count c head list words views) where
  -- an undrawn slot is a slot of the table, and nobody holds it
  pub undrawn : (x : Handle) → Member x (drop c list) → (sum_by (λ (u : ClaimView). slot_times x.slot u.held) views ≡ 0) × (x.slot < count)
  undrawn x m =
      let a = member_times x (drop c list) m in
      let s = h.slots x.slot in
      (omega (arith, a, s, at_most_once x.slot count), slot_below x.slot count (omega (arith, a, s)))
