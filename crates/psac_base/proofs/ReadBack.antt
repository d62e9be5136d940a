-- A printed number reads back.
use Rattle.std.proofs.Common.{◌≡◌, ℕ, ℤ, pos, negsuc, suc, ◌≤◌, ◌<◌, ◌+◌, ◌-◌, ◌*◌, ◌/◌, ◌%◌, ◌^◌, ◌==◌, true, false, List, [], ◌∷◌, ◌++◌, ◌∙◌, Some, length, drop, arith, rules, zero, append_assoc, sym, ap, refl, get_or}
use Rattle.std.specs.Prelude.{nat_le, nat_lt, option_and_then, FitsSigned}
use Rattle.std.specs.Int.{w64}
use Rattle.std.proofs.lemmas.Bool.{ne_eqb}
use Rattle.std.proofs.lemmas.List.{append-nil}
use Rattle.std.proofs.Math.Seq.{drop-append_seam}
use Rattle.std.proofs.lemmas.Fmt.{decimal_by_steps, decimal_digit, first_decimal, decimal_nonempty}
use Rattle.std.specs.Char.{is_ascii_digit}
use Rattle.std.specs.Fmt.{decimal, signed_decimal}
use Rattle.psac_base.specs.Number.{magnitude_after, magnitude_of, positive_of, int_of}

-- one more digit
more : (n d : ℕ) (rest : List ℕ) → d < 10 → n * 10 + d ≤ 2 ^ 63 → magnitude_after n ((48 + d) ∷ rest) ≡ magnitude_after (n * 10 + d) rest
more n d rest digit fits =
    let is_digit : is_ascii_digit (48 + d) ≡ true = grind (arith, digit) in
    let same : (48 + d) - 48 ≡ d = omega arith in
    let within : nat_le (n * 10 + d) (2 ^ 63) ≡ true = grind (arith, fits) in
    rw (is_digit, same, within) refl

-- these are the digits of n: behind them the reading goes on from n
abbrev Reads : ℕ → List ℕ → Type 0
Reads n ds = n ≤ 2 ^ 63 → (rest : List ℕ) → magnitude_after 0 (ds ++ rest) ≡ magnitude_after n rest

reads_one : (n : ℕ) → n < 10 → Reads n ((48 + n) ∷ [])
reads_one n digit fits rest = more 0 n rest digit (omega (arith, fits)) ∙ ap (λ m. magnitude_after m rest) (omega arith)

reads_more : (n : ℕ) (ds : List ℕ) → 10 ≤ n → Reads (n / 10) ds → Reads n (ds ++ ((48 + n % 10) ∷ []))
reads_more n ds big before fits rest =
    let whole : (n / 10) * 10 + n % 10 ≡ n = omega arith in
    ap (magnitude_after 0) (append_assoc ds ((48 + n % 10) ∷ []) rest)
    ∙ before (omega (arith, whole)) ((48 + n % 10) ∷ rest)
    ∙ more (n / 10) (n % 10) rest (omega arith) (omega (arith, whole))
    ∙ ap (λ m. magnitude_after m rest) whole

reads : (n : ℕ) → n ≤ 2 ^ 63 → magnitude_after 0 (decimal n) ≡ Some n
reads n fits =
    let all = decimal_by_steps Reads reads_one reads_more n (omega arith) fits [] in
    ap (magnitude_after 0) (sym (append-nil (decimal n))) ∙ all

-- the first byte is a digit, and it isn't zero where the number isn't
first_digit : (n : ℕ) → n < 2 ^ 64 → 48 ≤ get_or (decimal n) 0 0
first_digit zero fits = omega (arith, ap (λ ds. get_or ds 0 0) (decimal_digit 0 (omega arith)))
first_digit (suc n) fits = omega (arith, first_decimal (suc n) (omega arith) fits)

no_needless_zero : (ds : List ℕ) → 0 < length ds → 48 < get_or ds 0 0 → magnitude_of ds ≡ magnitude_after 0 ds
no_needless_zero [] some first = absurd (omega arith)
no_needless_zero (c ∷ []) some first = refl
no_needless_zero (c ∷ d ∷ ds) some first =
    let e : (c == 48) ≡ false = ne_eqb c 48 (λ same. omega (arith, same, first)) in rw e refl

magnitude_of-decimal : (n : ℕ) → n ≤ 2 ^ 63 → magnitude_of (decimal n) ≡ Some n
magnitude_of-decimal zero fits = rw (decimal_digit 0 (omega arith)) refl
magnitude_of-decimal (suc n) fits =
    no_needless_zero (decimal (suc n)) (decimal_nonempty (suc n) (omega arith)) (first_decimal (suc n) (omega arith) (omega arith))
    ∙ reads (suc n) fits

int_of-plain : (ds : List ℕ) → 48 ≤ get_or ds 0 0 → int_of ds ≡ option_and_then positive_of (magnitude_of ds)
int_of-plain [] first = absurd (omega arith)
int_of-plain (c ∷ cs) first = let e : (c == 45) ≡ false = ne_eqb c 45 (λ same. omega (arith, same, first)) in rw e refl

-- each number of 64 bits reads back from its text
pub int_of-signed_decimal : (z : ℤ) → FitsSigned w64 z → int_of (signed_decimal z) ≡ Some z
int_of-signed_decimal (pos n) fits =
    let low : n < 2 ^ 63 = search (rules, fits) in
    let positive : nat_lt n (2 ^ 63) ≡ true = grind (arith, low) in
    int_of-plain (decimal n) (first_digit n (omega arith))
    ∙ rw (magnitude_of-decimal n (omega arith), positive) refl
int_of-signed_decimal (negsuc n) fits =
    let low : n < 2 ^ 63 = search (rules, fits) in
    let some : (suc n == 0) ≡ false = ne_eqb (suc n) 0 (λ none. omega (arith, none)) in
    rw (magnitude_of-decimal (suc n) (omega arith), some) refl

-- behind what stood there before, the number that was appended reads back
pub appended_reads_back : (before now : List ℕ) (z : ℤ) → FitsSigned w64 z → now ≡ before ++ signed_decimal z
    → int_of (drop (length before) now) ≡ Some z
appended_reads_back before now z fits appended =
    rw (appended, drop-append_seam before (signed_decimal z)) (int_of-signed_decimal z fits)
