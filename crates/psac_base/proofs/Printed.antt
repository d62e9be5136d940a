-- A number that is read is what its printing gives: there is one text for each number.
use Rattle.std.proofs.Common.{◌≡◌, ℕ, ℤ, pos, negsuc, suc, zero, ◌≤◌, ◌<◌, ◌+◌, ◌-◌, ◌*◌, ◌^◌, ◌==◌, ◌&&◌, Bool, true, false, List, [], ◌∷◌, ◌∙◌, Option, Some, None, length, arith, rules, sym, ap, refl, get_or, if◌then◌else◌}
use Rattle.std.specs.Prelude.{IfSome, nat_le, nat_lt, option_and_then}
use Rattle.std.proofs.lemmas.Bool.{and_parts, eqb-true, eqb-false, leb-true}
use Rattle.std.proofs.lemmas.Fmt.{decimal-digits_value}
use Rattle.std.proofs.lemmas.Str.Parse.{IsNumeralModel, numerals_by_fold, tells_all_ascii_digits}
use Rattle.std.specs.Char.{is_ascii_digit}
use Rattle.std.specs.Fmt.{decimal, signed_decimal}
use Rattle.std.specs.Str.{all_ascii_digits}
use Rattle.psac_base.specs.Number.{magnitude_after, magnitude_of, positive_of, negative_of, int_of}

-- what stands behind a test that gave something
if_some : {X : Type 0} (b : Bool) (o : Option X) (x : X) → (if b then o else None) ≡ Some x → (b ≡ true) × (o ≡ Some x)
if_some true o x given = (refl, given)
if_some false o x given = absurd (cc given)

unless_some : {X : Type 0} (b : Bool) (o : Option X) (x : X) → (if b then None else o) ≡ Some x → (b ≡ false) × (o ≡ Some x)
unless_some true o x given = absurd (cc given)
unless_some false o x given = (refl, given)

-- the value of digits
abbrev read_on : ℕ → List ℕ → ℕ
read_on n [] = n
read_on n (c ∷ cs) = read_on (n * 10 + (c - 48)) cs

model : IsNumeralModel (λ ds. all_ascii_digits ds ≡ true) (read_on 0)
model = numerals_by_fold _ tells_all_ascii_digits read_on (search rules)

-- digits that are read on from n to m, and no more than can be read
record IsRead (n : ℕ) (ds : List ℕ) (m : ℕ) : Type 0 where
  digits : all_ascii_digits ds ≡ true
  value : read_on n ds ≡ m
  bound : m ≤ 2 ^ 63

is_read : (n : ℕ) (ds : List ℕ) (m : ℕ) → n ≤ 2 ^ 63 → magnitude_after n ds ≡ Some m → IsRead n ds m
is_read n [] m fits given = let same : n ≡ m = cc given in record { digits = refl; value = same; bound = omega (arith, same, fits) }
is_read n (c ∷ cs) m fits given =
    let next = n * 10 + (c - 48) in
    let tested = if_some (is_ascii_digit c && nat_le next (2 ^ 63)) (magnitude_after next cs) m given in
    let both = and_parts (is_ascii_digit c) (nat_le next (2 ^ 63)) tested.0 in
    let rest = is_read next cs m (leb-true next (2 ^ 63) both.1) tested.1 in
    record { digits = rw (both.0, rest.digits) refl; value = rest.value; bound = rest.bound }

written : (ds : List ℕ) (n : ℕ) → 0 < length ds → (get_or ds 0 0 ≡ 48 → length ds ≡ 1) → magnitude_after 0 ds ≡ Some n → ds ≡ decimal n
written ds n some no_zero given =
    let known = is_read 0 ds n (omega arith) given in
    sym (decimal-digits_value model ds known.digits some no_zero (omega (arith, known.value, known.bound)))
    ∙ ap decimal known.value

magnitude_written : (ds : List ℕ) (n : ℕ) → magnitude_of ds ≡ Some n → ds ≡ decimal n
magnitude_written [] n given = absurd (cc given)
magnitude_written (c ∷ []) n given = written (c ∷ []) n (omega arith) (λ _. refl) given
magnitude_written (c ∷ d ∷ ds) n given =
    let tested = unless_some (c == 48) (magnitude_after 0 (c ∷ d ∷ ds)) n given in
    written (c ∷ d ∷ ds) n (omega arith) (λ zero_first. absurd (eqb-false c 48 tested.0 zero_first)) tested.1

positive_written : (ds : List ℕ) (o : Option ℕ) (z : ℤ) → magnitude_of ds ≡ o → option_and_then positive_of o ≡ Some z → ds ≡ signed_decimal z
positive_written ds None z read given = absurd (cc given)
positive_written ds (Some n) z read given =
    let tested = if_some (nat_lt n (2 ^ 63)) (Some (pos n)) z given in
    let same : pos n ≡ z = cc tested.1 in
    rw (← same) (magnitude_written ds n read)

negative_written : (ds : List ℕ) (o : Option ℕ) (z : ℤ) → magnitude_of ds ≡ o → option_and_then negative_of o ≡ Some z → 45 ∷ ds ≡ signed_decimal z
negative_written ds None z read given = absurd (cc given)
negative_written ds (Some zero) z read given = absurd (cc given)
negative_written ds (Some (suc n)) z read given =
    let tested = unless_some (suc n == 0) (Some (negsuc n)) z given in
    let same : negsuc n ≡ z = cc tested.1 in
    rw (← same) (ap (λ xs. 45 ∷ xs) (magnitude_written ds (suc n) read))

by_sign : (b : Bool) (c : ℕ) (cs : List ℕ) (z : ℤ) → (c == 45) ≡ b
    → (if b then option_and_then negative_of (magnitude_of cs) else option_and_then positive_of (magnitude_of (c ∷ cs))) ≡ Some z
    → c ∷ cs ≡ signed_decimal z
by_sign true c cs z sign given = rw (eqb-true c 45 sign) (negative_written cs (magnitude_of cs) z refl given)
by_sign false c cs z sign given = positive_written (c ∷ cs) (magnitude_of (c ∷ cs)) z refl given

-- bytes that are read are the text of their number
pub int_of-Some : (bytes : List ℕ) (z : ℤ) → int_of bytes ≡ Some z → bytes ≡ signed_decimal z
int_of-Some [] z given = absurd (cc given)
int_of-Some (c ∷ cs) z given = by_sign (c == 45) c cs z refl given

pub printed_if_Some : (bytes : List ℕ) (value : Option ℤ) → value ≡ int_of bytes → IfSome value (λ z. bytes ≡ signed_decimal z)
printed_if_Some bytes None read = tt
printed_if_Some bytes (Some z) read = int_of-Some bytes z (sym read)
