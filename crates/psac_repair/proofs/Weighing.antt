-- From sums by every weight to members.
use Rattle.std.proofs.Common.{◌≡◌, ◌⊎◌, ℕ, ◌+◌, ◌<◌, ◌≤◌, List, [], ◌∷◌, Option, Some, None, cond, true≢false, refl, ap, sym, ◌∙◌, inl, inr, ⊎_elim, arith}
use Rattle.std.specs.Prelude.{sum_by, ◌==◌}
use Rattle.std.proofs.lemmas.List.Sums.{sum_by-cons}
use Rattle.psac_ops.specs.declared.plain.Handle.{Handle}
use Rattle.psac_slots.specs.Handles.{Member}
use Rattle.psac_slots.specs.Claiming.{times}
use Rattle.psac_laws.proofs.Places.{test_or, zero_or, some_is, nat_is, nat_same}
use Rattle.psac_marks.specs.declared.view.OwnView.{OwnView}
use Rattle.psac_marks.proofs.Counted.{times_member, times_found}

-- whether two are the same can be told
abbrev pub Tests : Type 0 → Type 0
Tests A = (x y : A) → (x ≡ y) ⊎ (x ≡ y → ⊥)

pub nat_tests : Tests ℕ
nat_tests x y = elim (test_or (x == y)) [ inl t ↦ inl (nat_is x y t) | inr f ↦ inr (λ e. true≢false (sym (nat_same y) ∙ ap (λ z. z == y) (sym e) ∙ f)) ]

pub option_tests : Tests (Option ℕ)
option_tests None None = inl refl
option_tests None (Some y) = inr (λ e. absurd cc)
option_tests (Some x) None = inr (λ e. absurd cc)
option_tests (Some x) (Some y) = elim (nat_tests x y) [ inl e ↦ inl (ap Some e) | inr n ↦ inr (λ e. n (some_is e)) ]

pub handle_tests : Tests Handle
handle_tests x y =
    elim (nat_tests x.slot y.slot) [
      | inr n ↦ inr (λ e. n (ap (λ (h : Handle). h.slot) e))
      | inl a ↦
          elim (nat_tests x.generation y.generation) [
            | inr n ↦ inr (λ e. n (ap (λ (h : Handle). h.generation) e))
            | inl b ↦ inl (λ i. record { slot = a i; generation = b i })
          ]
    ]

pub own_tests : Tests OwnView
own_tests x y =
    elim (handle_tests x.node y.node) [
      | inr n ↦ inr (λ e. n (ap (λ (o : OwnView). o.node) e))
      | inl a ↦
          elim (option_tests x.parent y.parent) [
            | inr n ↦ inr (λ e. n (ap (λ (o : OwnView). o.parent) e))
            | inl b ↦ inl (λ i. record { node = a i; parent = b i })
          ]
    ]

-- 1 where it is this one, and else 0
abbrev weight : {A : Type 0} {x y : A} → (x ≡ y) ⊎ (x ≡ y → ⊥) → ℕ
weight (inl e) = 1
weight (inr n) = 0

weight_same : {A : Type 0} {x y : A} (d : (x ≡ y) ⊎ (x ≡ y → ⊥)) → x ≡ y → ◌≡◌ {A = ℕ} (weight d) 1
weight_same (inl e) s = refl
weight_same (inr n) s = absurd (n s)

weight_is : {A : Type 0} {x y : A} (d : (x ≡ y) ⊎ (x ≡ y → ⊥)) → 0 < weight d → x ≡ y
weight_is (inl e) p = e
weight_is (inr n) p = absurd (omega (arith, p))

abbrev this : {A : Type 0} → Tests A → A → A → ℕ
this t x y = weight (t y x)

this_in : {A : Type 0} (t : Tests A) (x : A) (xs : List A) → Member x xs → 1 ≤ sum_by (this t x) xs
this_in t x [] i = absurd i
this_in t x (y ∷ ys) i =
    let c = sum_by-cons (this t x) y ys in
    ⊎_elim (λ (e : y ≡ x). let w = weight_same (t y x) e in omega (arith, c, w)) (λ (j : Member x ys). let d = this_in t x ys j in omega (arith, c, d)) i

in_this : {A : Type 0} (t : Tests A) (x : A) (xs : List A) → 1 ≤ sum_by (this t x) xs → Member x xs
in_this t x [] p = absurd (omega (arith, p))
in_this t x (y ∷ ys) p =
    elim (zero_or (this t x y)) [
      | inr q ↦ inl (weight_is (t y x) q)
      | inl z ↦ inr (in_this t x ys (let c = sum_by-cons (this t x) y ys in omega (arith, c, z, p)))
    ]

-- a list that by every weight is two others together
module _ {A : Type 0} (t : Tests A) (all xs ys : List A) (s : (g : A → ℕ) → sum_by g all ≡ sum_by g xs + sum_by g ys) where
  pub sum_left : (x : A) → Member x xs → Member x all
  sum_left x i = in_this t x all (let a = s (this t x) in let b = this_in t x xs i in omega (arith, a, b))

  pub sum_right : (x : A) → Member x ys → Member x all
  sum_right x i = in_this t x all (let a = s (this t x) in let b = this_in t x ys i in omega (arith, a, b))

  pub sum_cases : (x : A) → Member x all → Member x xs ⊎ Member x ys
  sum_cases x i =
      elim (zero_or (sum_by (this t x) xs)) [
        | inr p ↦ inl (in_this t x xs p)
        | inl z ↦ inr (in_this t x ys (let a = s (this t x) in let b = this_in t x all i in omega (arith, a, b, z)))
      ]

-- one of them taken off
pub record Less (x : ℕ) (ys : List ℕ) : Type 0 where
  pub rest : List ℕ
  pub counts : (z : ℕ) → times z ys ≡ times z (x ∷ []) + times z rest

times_cons : (z y : ℕ) (ys : List ℕ) → times z (y ∷ ys) ≡ times z (y ∷ []) + times z ys
times_cons z y ys =
    let f : ℕ → ℕ = λ x. cond (x == z) 1 0 in
    let a = sum_by-cons f y ys in
    let b = sum_by-cons f y [] in
    let c : sum_by f [] ≡ 0 = refl in
    omega (arith, a, b, c)

less : (x : ℕ) (ys : List ℕ) → Member x ys → Less x ys
less x [] i = absurd i
less x (y ∷ ys) i =
    ⊎_elim
    (λ (e : y ≡ x). record { rest = ys; counts = λ z. let a = times_cons z y ys in let b = ap (λ w. times z (w ∷ [])) e in omega (arith, a, b) })
    (λ (j : Member x ys).
    let l = less x ys j in
    record { rest = y ∷ l.rest; counts = λ z. let a = times_cons z y ys in let b = times_cons z y l.rest in let c = l.counts z in omega (arith, a, b, c) })
    i

-- what a list has beyond another
pub record Beyond (xs ys : List ℕ) : Type 0 where
  pub more : List ℕ
  pub counts : (z : ℕ) → times z ys ≡ times z xs + times z more

pub beyond : (xs ys : List ℕ) → ((z : ℕ) → times z xs ≤ times z ys) → Beyond xs ys
beyond [] ys h = record { more = ys; counts = λ z. let c : times z [] ≡ 0 = refl in omega (arith, c) }
beyond (x ∷ xs) ys h =
    let l = less x ys (times_in x ys (let a = h x in let b = times_member x (x ∷ xs) (inl refl) in omega (arith, a, b))) in
    let r = beyond xs l.rest (λ z. let a = h z in let b = times_cons z x xs in let c = l.counts z in omega (arith, a, b, c)) in
    record { more = r.more; counts = λ z. let a = r.counts z in let b = times_cons z x xs in let c = l.counts z in omega (arith, a, b, c) }
  where
    times_in : (x : ℕ) (ys : List ℕ) → 1 ≤ times x ys → Member x ys
    times_in x ys p = times_found x ys (omega (arith, p))
