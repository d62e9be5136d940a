-- Sums over lists, and what they tell of members.
use Rattle.std.proofs.Common.{◌≡◌, ◌≢◌, ℕ, zero, suc, ◌+◌, ◌<◌, ◌≤◌, List, [], ◌∷◌, Bool, true, false, cond, refl, sym, ap, ◌∙◌, inl, inr, ⊎_elim, arith}
use Rattle.std.specs.Prelude.{sum_by, not, ◌==◌}
use Rattle.std.proofs.lemmas.List.Sums.{sum_by-cons}
use Rattle.std.proofs.lemmas.Bool.{eq-eqb, eqb-true, ne_eqb, true≢false}
use Rattle.psac_ops.specs.declared.plain.Handle.{Handle}
use Rattle.psac_slots.specs.Handles.{Member, slot_times, removed}
use Rattle.psac_slots.proofs.Sums.{bit}
use Rattle.psac_slots.proofs.Removed.{member_times}
use Rattle.psac_slots.proofs.Given.{removed_none}

module _ {A : Type 0} where
  pub member_le : (f : A → ℕ) (x : A) (xs : List A) → Member x xs → f x ≤ sum_by f xs
  member_le f x [] m = absurd m
  member_le f x (y ∷ ys) m =
      let c = sum_by-cons f y ys in
      ⊎_elim
      (λ (e : y ≡ x). let t : f y ≡ f x = ap f e in omega (arith, c, t))
      (λ r. let q = member_le f x ys r in omega (arith, c, q))
      m

  member_one : (f : A → ℕ) (x : A) (xs : List A) → (0 < sum_by f xs → (y : A) × Member y xs × (0 < f y)) → (n : ℕ) → f x ≡ n → 0 < sum_by f (x ∷ xs) → (y : A) × Member y (x ∷ xs) × (0 < f y)
  member_one f x xs more zero e p = let c = sum_by-cons f x xs in let q = more (omega (arith, c, e, p)) in (q.0, inr q.1, q.2)
  member_one f x xs more (suc n) e p = (x, inl refl, omega (arith, e))

  pub member_of : (f : A → ℕ) (xs : List A) → 0 < sum_by f xs → (x : A) × Member x xs × (0 < f x)
  member_of f [] p = absurd (omega (arith, p))
  member_of f (x ∷ xs) p = member_one f x xs (λ q. member_of f xs q) (f x) refl p

  pub sum_like : (f g : A → ℕ) (xs : List A) → ((x : A) → Member x xs → f x ≡ g x) → sum_by f xs ≡ sum_by g xs
  sum_like f g [] h = refl
  sum_like f g (x ∷ xs) h = let a = sum_by-cons f x xs in let b = sum_by-cons g x xs in let e = h x (inl refl) in let r = sum_like f g xs (λ y m. h y (inr m)) in omega (arith, a, b, e, r)

-- the handle of a slot is taken out of a list in which the slot stands once
removed_one : (g : Handle → ℕ) (h x : Handle) (xs : List Handle) → slot_times h.slot (x ∷ xs) ≤ 1 → Member h (x ∷ xs) → (slot_times h.slot xs ≤ 1 → Member h xs → sum_by g (removed h.slot xs) + g h ≡ sum_by g xs) → (b : Bool) → (x.slot == h.slot) ≡ b → sum_by g (cond (not b) (x ∷ removed h.slot xs) (removed h.slot xs)) + g h ≡ sum_by g (x ∷ xs)
removed_one g h x xs few m more true is =
    let c = sum_by-cons (λ (y : Handle). cond (y.slot == h.slot) 1 0) x xs in
    let t : bit (x.slot == h.slot) ≡ 1 = ap bit is in
    let none : slot_times h.slot xs ≡ 0 = omega (arith, c, t, few) in
    let e : sum_by g (removed h.slot xs) ≡ sum_by g xs = ap (sum_by g) (removed_none h.slot xs none) in
    let d = sum_by-cons g x xs in
    ⊎_elim
    (λ (q : x ≡ h). let k : g x ≡ g h = ap g q in omega (arith, e, d, k))
    (λ r. let k = member_times h xs r in absurd (omega (arith, none, k)))
    m
removed_one g h x xs few m more false is =
    let c = sum_by-cons (λ (y : Handle). cond (y.slot == h.slot) 1 0) x xs in
    let t : bit (x.slot == h.slot) ≡ 0 = ap bit is in
    let d = sum_by-cons g x xs in
    let e = sum_by-cons g x (removed h.slot xs) in
    ⊎_elim
    (λ (q : x ≡ h). absurd (true≢false (sym (eq-eqb x.slot h.slot (ap (λ (y : Handle). y.slot) q)) ∙ is)))
    (λ r. let k = more (omega (arith, c, t, few)) r in omega (arith, d, e, k))
    m

pub sum_removed : (g : Handle → ℕ) (h : Handle) (xs : List Handle) → slot_times h.slot xs ≤ 1 → Member h xs → sum_by g (removed h.slot xs) + g h ≡ sum_by g xs
sum_removed g h [] few m = absurd m
sum_removed g h (x ∷ xs) few m = removed_one g h x xs few m (λ f r. sum_removed g h xs f r) (x.slot == h.slot) refl

pub removed_less : (z s : ℕ) (hs : List Handle) → slot_times z (removed s hs) ≤ slot_times z hs
removed_less z s [] = omega arith
removed_less z s (h ∷ hs) = by (removed_less z s hs) (h.slot == s)
  where
    by : slot_times z (removed s hs) ≤ slot_times z hs → (b : Bool) → slot_times z (cond (not b) (h ∷ removed s hs) (removed s hs)) ≤ slot_times z (h ∷ hs)
    by r true = let c = sum_by-cons (λ (y : Handle). cond (y.slot == z) 1 0) h hs in omega (arith, c, r)
    by r false = let c = sum_by-cons (λ (y : Handle). cond (y.slot == z) 1 0) h hs in let d = sum_by-cons (λ (y : Handle). cond (y.slot == z) 1 0) h (removed s hs) in omega (arith, c, d, r)

pub differs : (a b : ℕ) → not (a == b) ≡ true → a ≢ b
differs a b t e = true≢false (sym t ∙ ap not (eq-eqb a b e))

pub is_unlike : (a b : ℕ) → a ≢ b → not (a == b) ≡ true
is_unlike a b n = ap not (ne_eqb a b n)

-- 1 for this handle, and 0 for any other
abbrev pub this : Handle → Handle → ℕ
this m h = cond (h.slot == m.slot) (cond (h.generation == m.generation) 1 0) 0

pub this_one : (m : Handle) → ◌≡◌ {A = ℕ} (this m m) 1
this_one m = rw (eq-eqb m.slot m.slot refl, eq-eqb m.generation m.generation refl) refl

this_is : (m h : Handle) → 0 < this m h → h ≡ m
this_is m h p = by (h.slot == m.slot) (h.generation == m.generation) refl refl p
  where
    by : (a b : Bool) → (h.slot == m.slot) ≡ a → (h.generation == m.generation) ≡ b → 0 < cond a (cond b 1 0) 0 → h ≡ m
    by true true p q r = λ i. record { slot = eqb-true h.slot m.slot p i; generation = eqb-true h.generation m.generation q i }
    by true false p q r = absurd (omega (arith, r))
    by false b p q r = absurd (omega (arith, r))

this_one_in : (m h : Handle) (hs : List Handle) → (0 < sum_by (this m) hs → Member m hs) → (n : ℕ) → this m h ≡ n → 0 < sum_by (this m) (h ∷ hs) → Member m (h ∷ hs)
this_one_in m h hs more zero e p = let c = sum_by-cons (this m) h hs in inr (more (omega (arith, c, e, p)))
this_one_in m h hs more (suc n) e p = inl (this_is m h (omega (arith, e)))

pub this_in : (m : Handle) (hs : List Handle) → 0 < sum_by (this m) hs → Member m hs
this_in m [] p = absurd (omega (arith, p))
this_in m (h ∷ hs) p = this_one_in m h hs (λ q. this_in m hs q) (this m h) refl p
