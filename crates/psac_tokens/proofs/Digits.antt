-- A number is taken from its digits one by one.
use Rattle.std.proofs.Common.{◌≡◌, ℕ, zero, suc, ◌+◌, ◌-◌, ◌*◌, ◌^◌, ◌≤◌, Bool, true, false, if◌then◌else◌, nat_lt}
use Rattle.std.proofs.Common.{List, [], ◌∷◌, length, Option, Some, None, ◌⊎◌, inl, inr, refl, ap, sym, ◌∙◌, arith}
use Rattle.std.proofs.lemmas.Bool.Decides.{nat_tests}
use Rattle.psac_tokens.specs.Number.{digits_value, in_63, int_of}

-- the number that the digits write behind those of n, as long as it is below 2^63
abbrev pub int_after : ℕ → List ℕ → Option ℕ
int_after n [] = Some n
int_after n (c ∷ cs) = if nat_lt (n * 10 + (c - 48)) (2 ^ 63) then int_after (n * 10 + (c - 48)) cs else None

test_or : (b : Bool) → (b ≡ true) ⊎ (b ≡ false)
test_or true = inl refl
test_or false = inr refl

still_over : (a b m : ℕ) → a ≤ b → nat_lt a m ≡ false → nat_lt b m ≡ false
still_over a b m l h = grind (arith, nat_tests)

some_tens : (n : ℕ) → 1 ≤ 10 ^ n
some_tens zero = omega arith
some_tens (suc n) = let more = some_tens n in omega arith

in_tens : (n d p v : ℕ) → n * (10 * p) + (d * p + v) ≡ (n * 10 + d) * p + v
in_tens n d p v = omega arith

not_less : (a p v : ℕ) → 1 ≤ p → a ≤ a * p + v
not_less a p v h = grind arith

digits_behind : (n : ℕ) (cs : List ℕ) → nat_lt n (2 ^ 63) ≡ true
    → int_after n cs ≡ in_63 (n * 10 ^ length cs + digits_value cs)
digits_behind n [] h =
    let e : n * 1 + 0 ≡ n = omega arith in
    rw (e, h) refl
digits_behind n (c ∷ cs) h =
    let next : ℕ = n * 10 + (c - 48) in
    let p : ℕ = 10 ^ length cs in
    let tens : 10 ^ suc (length cs) ≡ 10 * p = omega arith in
    let e : n * 10 ^ suc (length cs) + ((c - 48) * p + digits_value cs) ≡ next * p + digits_value cs = ap
    (λ z. n * z + ((c - 48) * p + digits_value cs)) tens ∙ in_tens n (c - 48) p (digits_value cs) in
    elim (test_or (nat_lt next (2 ^ 63))) [
      | inl t ↦ rw t (digits_behind next cs t ∙ ap in_63 (sym e))
      | inr t ↦
          (let over = still_over next (next * p + digits_value cs) (2 ^ 63)
          (not_less next p (digits_value cs) (some_tens (length cs))) t in
          rw (t, e, over) refl)
    ]

pub digits_are : (cs : List ℕ) → int_after 0 cs ≡ int_of cs
digits_are cs = digits_behind 0 cs refl ∙ ap in_63 (omega arith)
