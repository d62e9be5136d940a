-- What two sides of a fork have together, by every weight.
use Rattle.std.proofs.Common.{◌≡◌, ℕ, ◌+◌, ◌<◌, ◌&&◌, Bool, true, false, not, List, [], ◌∷◌, ◌++◌, map, length, refl, ap, sym, ◌∙◌, inl, inr, arith}
use Rattle.std.specs.Prelude.{filter, sum_by}
use Rattle.std.proofs.lemmas.List.Sums.{sum_by-append, sum_by-cons}
use Rattle.std.proofs.lemmas.Bool.{lt-ltb, ltb-true}
use Rattle.psac_slots.specs.Handles.{Member}
use Rattle.psac_slots.specs.Divided.{Ways, Rights, stays, goes, lends, told, above, comes_back}
use Rattle.psac_slots.proofs.Pairs.{member_map}
use Rattle.psac_laws.proofs.Places.{test_or, not_true}

-- three parts of a list
pub three : {A : Type 0} (s t : A → Bool) (g : A → ℕ) (xs : List A) → sum_by g (filter (λ x. not (s x) && not (t x)) xs) + (sum_by g (filter (λ x. not (s x) && t x) xs) + sum_by g (filter s xs)) ≡ sum_by g xs
three s t g [] = refl
three s t g (x ∷ xs) =
    let r = three s t g xs in
    let c = sum_by-cons g x xs in
    elim (test_or (s x)) [
      | inl p ↦ rw p (let d = sum_by-cons g x (filter s xs) in omega (arith, r, c, d))
      | inr p ↦
          elim (test_or (t x)) [
            | inl q ↦ rw (p, q) (let d = sum_by-cons g x (filter (λ x. not (s x) && t x) xs) in omega (arith, r, c, d))
            | inr q ↦ rw (p, q) (let d = sum_by-cons g x (filter (λ x. not (s x) && not (t x)) xs) in omega (arith, r, c, d))
          ]
    ]

pub keeps_none : {A : Type 0} (f : A → Bool) (xs ys : List A) → ((x : A) → Member x xs → f x ≡ false) → filter f (xs ++ ys) ≡ filter f ys
keeps_none f [] ys h = refl
keeps_none f (x ∷ xs) ys h = rw (h x (inl refl)) (keeps_none f xs ys (λ y i. h y (inr i)))

pub keeps_all : {A : Type 0} (f : A → Bool) (xs : List A) → ((x : A) → Member x xs → f x ≡ true) → filter f xs ≡ xs
keeps_all f [] h = refl
keeps_all f (x ∷ xs) h = rw (h x (inl refl)) (ap (λ z. x ∷ z) (keeps_all f xs (λ y i. h y (inr i))))

pub sum_map : {A B : Type 0} (f : A → B) (g : B → ℕ) (xs : List A) → sum_by g (map f xs) ≡ sum_by (λ x. g (f x)) xs
sum_map f g [] = refl
sum_map f g (x ∷ xs) =
    let r = sum_map f g xs in
    let a = sum_by-cons g (f x) (map f xs) in
    let b = sum_by-cons (λ x. g (f x)) x xs in
    omega (arith, r, a, b)

pub sum_same : {A : Type 0} (f g : A → ℕ) (xs : List A) → ((x : A) → f x ≡ g x) → sum_by f xs ≡ sum_by g xs
sum_same f g [] h = refl
sum_same f g (x ∷ xs) h =
    let r = sum_same f g xs h in
    let a = sum_by-cons f x xs in
    let b = sum_by-cons g x xs in
    let e = h x in
    omega (arith, r, a, b, e)

module _ {W E : Type 0} (k : Ways W E) (shared to_right : ℕ → Bool) (r : Rights W E) (labels : (e : E) → Member e r.shared → length (k.label e) < length r.branch) (same : (w : W) → k.back (k.lend r.branch w) ≡ w) where
  not_back : (e : E) → Member e r.shared → comes_back k r.branch e ≡ false
  not_back e i = ap not (lt-ltb (length (k.label e)) (length r.branch) (labels e i))

  is_back : (e : E) → Member e (map (k.lend r.branch) (filter (lends k shared to_right) r.alone)) → comes_back k r.branch e ≡ true
  is_back e i =
      let q = member_map (k.lend r.branch) e (filter (lends k shared to_right) r.alone) i in
      let l : length (k.label e) ≡ length r.branch = ap (λ z. length (k.label z)) (sym q.2) ∙ ap length (k.lent_label r.branch q.0) in
      ap not (not_true (above k r.branch e) (λ t. let c = ltb-true (length (k.label e)) (length r.branch) t in omega (arith, c, l)))

  -- just what was lent comes back
  pub back_is : filter (comes_back k r.branch) (told k shared to_right r) ≡ map (k.lend r.branch) (filter (lends k shared to_right) r.alone)
  back_is =
      keeps_none (comes_back k r.branch) r.shared (map (k.lend r.branch) (filter (lends k shared to_right) r.alone)) not_back
      ∙ keeps_all (comes_back k r.branch) (map (k.lend r.branch) (filter (lends k shared to_right) r.alone)) is_back

  pub joined_sum : (g : W → ℕ) (la ra : List W) (a b : ℕ) → sum_by g la ≡ sum_by g (filter (stays k shared to_right) r.alone) + a → sum_by g ra ≡ sum_by g (filter (goes k shared to_right) r.alone) + b → sum_by g ((la ++ ra) ++ map k.back (filter (comes_back k r.branch) (told k shared to_right r))) ≡ sum_by g r.alone + (a + b)
  joined_sum g la ra a b ha hb =
      let lent = filter (lends k shared to_right) r.alone in
      let back = map k.back (filter (comes_back k r.branch) (told k shared to_right r)) in
      let c : sum_by g back ≡ sum_by g lent =
      ap (λ z. sum_by g (map k.back z)) back_is
      ∙ sum_map k.back g (map (k.lend r.branch) lent)
      ∙ sum_map (k.lend r.branch) (λ e. g (k.back e)) lent
      ∙ sum_same (λ w. g (k.back (k.lend r.branch w))) g lent (λ w. ap g (same w)) in
      let d = three (λ w. shared (k.slot w)) (λ w. to_right (k.slot w)) g r.alone in
      let e = sum_by-append g (la ++ ra) back in
      let f = sum_by-append g la ra in
      omega (arith, c, d, e, f, ha, hb)

pub keeps_front : {A : Type 0} (f : A → Bool) (xs ys : List A) → ((x : A) → Member x xs → f x ≡ true) → ((y : A) → Member y ys → f y ≡ false) → filter f (xs ++ ys) ≡ xs
keeps_front f [] [] h k = refl
keeps_front f [] (y ∷ ys) h k = rw (k y (inl refl)) (keeps_front f [] ys h (λ z i. k z (inr i)))
keeps_front f (x ∷ xs) ys h k = rw (h x (inl refl)) (ap (λ z. x ∷ z) (keeps_front f xs ys (λ y i. h y (inr i)) k))

module _ {W E : Type 0} (k : Ways W E) (shared to_right : ℕ → Bool) (r : Rights W E) (labels : (e : E) → Member e r.shared → length (k.label e) < length r.branch) where
  -- what was shared before is what is shared after
  pub above_is : filter (above k r.branch) (told k shared to_right r) ≡ r.shared
  above_is =
      keeps_front (above k r.branch) r.shared (map (k.lend r.branch) (filter (lends k shared to_right) r.alone))
      (λ e i. lt-ltb (length (k.label e)) (length r.branch) (labels e i))
      (λ e i.
      let q = member_map (k.lend r.branch) e (filter (lends k shared to_right) r.alone) i in
      let l : length (k.label e) ≡ length r.branch = ap (λ z. length (k.label z)) (sym q.2) ∙ ap length (k.lent_label r.branch q.0) in
      not_true (above k r.branch e) (λ t. let c = ltb-true (length (k.label e)) (length r.branch) t in omega (arith, c, l)))
