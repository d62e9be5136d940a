-- An INT is read back from its digits.
use Rattle.std.proofs.Common.{◌≡◌, ℕ, pos, ◌+◌, ◌-◌, ◌*◌, ◌/◌, ◌%◌, ◌<◌, ◌≤◌, ◌^◌, Bool, true, false, List, [], ◌∷◌, ◌++◌, length, length-append, refl, ap, sym, ◌∙◌, arith, Some, None}
use Rattle.std.specs.Prelude.{decimal, nat_lt, if◌then◌else◌}
use Rattle.std.specs.List.{prefix_len}
use Rattle.std.proofs.lemmas.Bool.{and_parts, and_from, lt-ltb}
use Rattle.std.proofs.lemmas.Bool.Decides.{nat_tests}
use Rattle.std.proofs.lemmas.Fmt.{decimal_by_steps}
use Rattle.psac_syntax.specs.declared.program.Program.{Program}
use Rattle.psac_tokens.specs.declared.token.Kind.TheVariants as k
use Rattle.psac_tokens.specs.Lex.{is_digit, front}
use Rattle.psac_tokens.specs.Number.{int_of}
use Rattle.psac_tokens.proofs.Digits.{digits_are, int_after}
use Rattle.psac_spelling.proofs.Pieces.{number, Fronts}
use Rattle.psac_spelling.proofs.Words.{all_pass, prefix_all, digits_end, digit_solid, digit_no_letter, Break, fronts_at}

all_pass-append : (test : ℕ → Bool) (x y : List ℕ) → all_pass test x ≡ true → all_pass test y ≡ true → all_pass test (x ++ y) ≡ true
all_pass-append test [] y a b = b
all_pass-append test (c ∷ x) y a b =
    let parts = and_parts (test c) (all_pass test x) a in
    and_from (test c) (all_pass test (x ++ y)) parts.0 (all_pass-append test x y parts.1 b)

digit : (d : ℕ) → d < 10 → is_digit (48 + d) ≡ true
digit d low = grind (arith, nat_tests)

abbrev Digits : List ℕ → Type 0
Digits ds = (all_pass is_digit ds ≡ true) × (0 < length ds)

more_digits : (n : ℕ) (ds : List ℕ) → 10 ≤ n → Digits ds → Digits (ds ++ ((48 + n % 10) ∷ []))
more_digits n ds ten h =
    (all_pass-append is_digit ds ((48 + n % 10) ∷ []) h.0 (and_from (is_digit (48 + n % 10)) true (digit (n % 10) (omega arith)) refl), omega (arith, length-append ds ((48 + n % 10) ∷ []), h.1))

digits_of : (n : ℕ) → n < 2 ^ 64 → Digits (decimal n)
digits_of n low = decimal_by_steps (λ n ds. Digits ds) (λ n one. (and_from (is_digit (48 + n)) true (digit n one) refl, omega arith)) more_digits n low

number_front : (ds z : List ℕ) → Digits ds → Break z → front (ds ++ z) ≡ (k.Int, length ds)
unfolding front
number_front [] z h at = absurd (omega (arith, h.1))
number_front (b ∷ x) z h at =
    let parts = and_parts (is_digit b) (all_pass is_digit x) h.0 in
    let size : prefix_len is_digit (x ++ z) ≡ length x = prefix_all is_digit x z parts.1 (digits_end z at) in
    let no : _ ≡ false = digit_no_letter b parts.0 in
    rw (no, parts.0, size) (ap (λ (n : ℕ). (k.Int, n)) (omega arith))

pub number_fronts : (p : Program) (n : ℕ) (z : List ℕ) → n < 2 ^ 63 → Break z → Fronts p (number (pos n)) z
number_fronts p n z low at = by (decimal n) refl (digits_of n (omega arith))
  where
    by : (ds : List ℕ) → decimal n ≡ ds → Digits ds → Fronts p (number (pos n)) z
    by [] is h = absurd (omega (arith, h.1))
    by (b ∷ x) is h =
        let parts = and_parts (is_digit b) (all_pass is_digit x) h.0 in
        fronts_at p (number (pos n)) b x z is (digit_solid b parts.0) (number_front (b ∷ x) z h at)

-- ---- the value

int_after-append : (m c n : ℕ) (ds : List ℕ) → int_after m ds ≡ Some n → int_after m (ds ++ c ∷ []) ≡ int_after n (c ∷ [])
int_after-append m c n [] h = let e : m ≡ n = cc in ap (λ k. int_after k (c ∷ [])) e
int_after-append m c n (d ∷ ds) h = by (nat_lt (m * 10 + (d - 48)) (2 ^ 63)) (λ g. int_after-append (m * 10 + (d - 48)) c n ds g) h
  where
    by : (b : Bool) → (int_after (m * 10 + (d - 48)) ds ≡ Some n → int_after (m * 10 + (d - 48)) (ds ++ c ∷ []) ≡ int_after n (c ∷ [])) → (if b then int_after (m * 10 + (d - 48)) ds else None) ≡ Some n → (if b then int_after (m * 10 + (d - 48)) (ds ++ c ∷ []) else None) ≡ int_after n (c ∷ [])
    by true rest given = rest given
    by false rest given = absurd (cc)

one_more : (n c : ℕ) → n * 10 + (c - 48) < 2 ^ 63 → int_after n (c ∷ []) ≡ Some (n * 10 + (c - 48))
one_more n c low = let e : nat_lt (n * 10 + (c - 48)) (2 ^ 63) ≡ true = lt-ltb (n * 10 + (c - 48)) (2 ^ 63) low in rw e refl

abbrev Valued : ℕ → List ℕ → Type 0
Valued n ds = n < 2 ^ 63 → int_after 0 ds ≡ Some n

one_digit : (n : ℕ) → n < 10 → Valued n ((48 + n) ∷ [])
one_digit n one low = one_more 0 (48 + n) (omega arith) ∙ ap Some (omega arith)

next_digit : (n : ℕ) (ds : List ℕ) → 10 ≤ n → Valued (n / 10) ds → Valued n (ds ++ ((48 + n % 10) ∷ []))
next_digit n ds ten h low =
    int_after-append 0 (48 + n % 10) (n / 10) ds (h (omega arith)) ∙ one_more (n / 10) (48 + n % 10) (omega arith) ∙ ap Some (omega arith)

pub value_of : (n : ℕ) → n < 2 ^ 63 → int_of (decimal n) ≡ Some n
value_of n low = sym (digits_are (decimal n)) ∙ decimal_by_steps Valued one_digit next_digit n (omega arith) low
