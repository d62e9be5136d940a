-- The words at the start meet the rule of values.
use Rattle.psac_values.proofs.Terms.{◌≡◌, ℕ, zero, suc, ◌+◌, ◌*◌, ◌<◌, ◌≤◌, [], ◌∷◌, ◌++◌, map, length, refl, sym, ap, ◌∙◌, subst, ⊎_elim, arith, Option, Some, length-append, at_past, fresh_at, ring_length, cases_lt, at_longer, some, some-ne-none, some-injective, get_elem?, Member, word_of, fresh, Own, Rights, length-fresh, member_cases, OwnedView, KnownView, ValueView, state_at, value_at, rights_of, ways, Whole, Fits, Made, Valued, first_mine, first_view, repeated, first_words, Carries}
use Rattle.psac_slots.proofs.Opens as slots

pub length-repeated : (x n : ℕ) → length (repeated x n) ≡ n
length-repeated x zero = refl
length-repeated x (suc n) = let a = length-append (repeated x n) (x ∷ []) in let b = length-repeated x n in omega (arith, a, b)

at_repeated : (x n k : ℕ) → k < n → get_elem? (repeated x n) k ≡ some x
at_repeated x zero k l = absurd (omega (arith, l))
at_repeated x (suc n) k l = ⊎_elim
    (λ (s : k < n). at_longer (repeated x n) (x ∷ []) k x (at_repeated x n k s))
    (λ (g : n ≤ k). let is : k ≡ length (repeated x n) + 0 = let a = length-repeated x n in omega (arith, a, l, g) in ap (get_elem? (repeated x n ++ x ∷ [])) is ∙ at_past (repeated x n) (x ∷ []) 0)
    (cases_lt k n)

mine_at : (n : ℕ) (w : OwnedView) → Member w (first_mine n) → (s : ℕ) × (s < n) × (record { of = record { slot = s; generation = 0 }; words = Some 0 ∷ Some 0 ∷ Some 0 ∷ [] } ≡ w)
mine_at zero w m = absurd m
mine_at (suc n) w m = ⊎_elim
    (λ p. let q = mine_at n w p in let l = q.1 in (q.0, omega (arith, l), q.2))
    (λ p. (n, omega arith, ⊎_elim (λ e. e) (λ b. absurd b) p))
    (member_cases w (first_mine n) (record { of = record { slot = n; generation = 0 }; words = Some 0 ∷ Some 0 ∷ Some 0 ∷ [] } ∷ []) m)

zero_word : (j x : ℕ) → get_elem? {A = Option ℕ} (Some 0 ∷ Some 0 ∷ Some 0 ∷ []) j ≡ some (Some x) → (j < 3) × (0 ≡ x)
zero_word zero x e = (omega arith, let q = some-injective (Some 0) (Some x) e in cc)
zero_word (suc zero) x e = (omega arith, let q = some-injective (Some 0) (Some x) e in cc)
zero_word (suc (suc zero)) x e = (omega arith, let q = some-injective (Some 0) (Some x) e in cc)
zero_word (suc (suc (suc j))) x e = absurd (some-ne-none (Some x) (sym e))

module _ (fixed count : ℕ) (fits : fixed + count < 4294967296) where
  state_is : (s : ℕ) → s < count → get_elem? (first_words fixed count) (state_at count s) ≡ some 2
  state_is s l =
      let is : count + s ≡ length (map word_of (fresh count)) + s = let a = ring_length count in omega (arith, a) in
      ap (get_elem? (map word_of (fresh count) ++ (repeated 2 count ++ repeated 0 (3 * (fixed + count))))) is ∙ (at_past (map word_of (fresh count)) (repeated 2 count ++ repeated 0 (3 * (fixed + count))) s ∙ at_longer (repeated 2 count) (repeated 0 (3 * (fixed + count))) s 2 (at_repeated 2 count s l))

  value_is : (s j : ℕ) → s < fixed → j < 3 → get_elem? (first_words fixed count) (value_at count s j) ≡ some 0
  value_is s j l m =
      let is : count + (count + (3 * s + j)) ≡ length (map word_of (fresh count)) + (length (repeated 2 count) + (3 * s + j)) = let a = ring_length count in let b = length-repeated 2 count in omega (arith, a, b) in
      ap (get_elem? (map word_of (fresh count) ++ (repeated 2 count ++ repeated 0 (3 * (fixed + count))))) is
      ∙ (at_past (map word_of (fresh count)) (repeated 2 count ++ repeated 0 (3 * (fixed + count))) (length (repeated 2 count) + (3 * s + j))
      ∙ (at_past (repeated 2 count) (repeated 0 (3 * (fixed + count))) (3 * s + j) ∙ at_repeated 0 (3 * (fixed + count)) (3 * s + j) (omega (arith, l, m))))

  pub length_first : length (first_words fixed count) ≡ suc (count + (count + 3 * (fixed + count)))
  length_first =
      let a = length-append (map word_of (fresh count)) (repeated 2 count ++ repeated 0 (3 * (fixed + count))) in
      let b = length-append (repeated 2 count) (repeated 0 (3 * (fixed + count))) in
      omega (arith, a, b, ring_length count, length-repeated 2 count, length-repeated 0 (3 * (fixed + count)))

  pub opens : Valued fixed count 0 0 (fresh count) (first_words fixed count) (first_view fixed count ∷ [])
  opens =
      let v = first_view fixed count in
      let one : (id : ℕ) (u : ValueView) → get_elem? (v ∷ []) id ≡ some u → (id ≡ 0) × (v ≡ u) = slots.only v in
      let two : (id : ℕ) (r : Rights OwnedView KnownView) → get_elem? (rights_of v ∷ []) id ≡ some r → (id ≡ 0) × (rights_of v ≡ r) = slots.only (rights_of v) in
      record {
        claims = slots.opens count (repeated 2 count ++ repeated 0 (3 * (fixed + count))) (omega (arith, fits));
        rights = record {
          own = λ i r e. subst (Own ways) (two i r e).1 record {
            labels = λ x m. absurd m;
            single = λ w x mw mx is. let a = mine_at fixed w mw in let b = mine_at fixed x mx in
                let s : a.0 ≡ b.0 = ap (λ (k : OwnedView). k.of.slot) a.2 ∙ (is ∙ sym (ap (λ (k : OwnedView). k.of.slot) b.2)) in
                sym a.2 ∙ ((λ k. record { of = record { slot = s k; generation = 0 }; words = Some 0 ∷ Some 0 ∷ Some 0 ∷ [] }) ∙ b.2);
            one = λ x y m. absurd m;
            apart = λ w mw x m. absurd m;
            awake = λ _ _. refl;
            rises = λ _ _. refl;
          };
          beside = λ i j r s e f n. absurd (n ((two i r e).0 ∙ sym (two j s f).0));
        };
        each = λ id u e. subst (Fits fixed count (first_words fixed count)) (one id u e).1 record {
          fixed_is = λ _. refl;
          mine = λ w m. let a = mine_at fixed w m in subst (λ (k : OwnedView). Whole fixed count (first_words fixed count) k.of k.words) a.2
              record { long = refl; low = (let l = a.1 in omega (arith, l)); stands = λ j x f. let z = zero_word j x f in value_is a.0 j a.1 z.0 ∙ ap some z.1 };
          known = λ x m. absurd m;
          states = λ t m. absurd m;
          held_is = refl;
          met = tt;
        };
        made = λ id u e. subst (Made fixed (v ∷ [])) (one id u e).1 record {
          mine = λ w m g. let a = mine_at fixed w m in let l = a.1 in let s = ap (λ (k : OwnedView). k.of.slot) a.2 in absurd (omega (arith, l, s, g));
          known = λ x m. absurd m;
        };
        long = (let l = length_first in omega (arith, l));
        free = λ k x le e. let q = fresh_at count k x e in state_is x.slot q.0 ∙ ap (λ g. some (2 * g)) (sym q.1);
      }

  pub first_carries : (size : ℕ) → suc (count + (count + 3 * (fixed + count))) ≡ size → Carries fixed count 0 count size (first_view fixed count)
  first_carries size e = record {
    live = refl;
    fixed_is = refl;
    count_is = refl;
    head_is = refl;
    room_is = length-fresh count;
    room_fits = omega arith;
    head_fits = omega arith;
    words_is = e;
    small = fits;
    settled = refl;
    out = λ t m. absurd m;
    held_is = refl;
    mine = λ w m. let a = mine_at fixed w m in subst (λ (k : OwnedView). (length k.words ≡ 3) × (k.of.slot < fixed + count)) a.2 (refl, (let l = a.1 in omega (arith, l)));
    known = λ x m. absurd m;
  }
