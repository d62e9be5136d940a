-- Words and marks are the longest tokens at the front of a text.
use Rattle.std.proofs.Common.{◌≡◌, ℕ, suc, ◌+◌, Bool, true, false, not, ◌&&◌, ◌||◌, List, [], ◌∷◌, ◌++◌, length, refl, sym, ap, ◌∙◌, arith}
use Rattle.std.specs.Prelude.{◌==◌}
use Rattle.std.specs.List.{prefix_len}
use Rattle.std.proofs.lemmas.List.{take_at}
use Rattle.std.proofs.lemmas.Bool.{and_parts, not-true, or_parts}
use Rattle.std.proofs.lemmas.Bool.Decides.{nat_tests}
use Rattle.psac_syntax.specs.declared.program.Program.{Program}
use Rattle.psac_tokens.specs.declared.place.Place.{Place}
use Rattle.psac_tokens.specs.declared.token.Kind.{Kind}
use Rattle.psac_tokens.specs.Lex.{skip, is_blank, is_letter, is_digit, reserved, front}
use Rattle.psac_spelling.proofs.Pieces.{Piece, Bare, plain, kind_of, kind_text, spell, Fronts}

abbrev pub is_word : ℕ → Bool
is_word b = is_letter b || is_digit b

abbrev pub all_pass : (ℕ → Bool) → List ℕ → Bool
all_pass test [] = true
all_pass test (b ∷ z) = test b && all_pass test z

-- no byte at the front goes on with a token
abbrev pub ends_token : ℕ → Bool
ends_token b = not (is_word b || b == 61)

abbrev pub Break : List ℕ → Type 0
Break [] = Unit {0}
Break (b ∷ z) = ends_token b ≡ true

-- it begins a token
abbrev pub is_solid : ℕ → Bool
is_solid b = not (b == 35 || is_blank b)

pub prefix_all : (test : ℕ → Bool) (x z : List ℕ) → all_pass test x ≡ true → prefix_len test z ≡ 0 → prefix_len test (x ++ z) ≡ length x
prefix_all test [] z all stop = stop
prefix_all test (b ∷ x) z all stop =
    let parts = and_parts (test b) (all_pass test x) all in
    let rest = prefix_all test x z parts.1 stop in
    rw parts.0 (omega arith)

stops : (test : ℕ → Bool) (z : List ℕ) → ((b : ℕ) → ends_token b ≡ true → test b ≡ false) → Break z → prefix_len test z ≡ 0
stops test [] h at = refl
stops test (b ∷ z) h at = rw (h b at) refl

pub no_word : (b : ℕ) → ends_token b ≡ true → is_word b ≡ false
no_word b h = grind (arith, nat_tests)

pub no_digit : (b : ℕ) → ends_token b ≡ true → is_digit b ≡ false
no_digit b h = grind (arith, nat_tests)

pub word_ends : (z : List ℕ) → Break z → prefix_len is_word z ≡ 0
word_ends z at = stops is_word z no_word at

pub digits_end : (z : List ℕ) → Break z → prefix_len is_digit z ≡ 0
digits_end z at = stops is_digit z no_digit at

pub letter_solid : (b : ℕ) → is_letter b ≡ true → is_solid b ≡ true
letter_solid b h = grind (arith, nat_tests)

pub digit_solid : (b : ℕ) → is_digit b ≡ true → is_solid b ≡ true
digit_solid b h = grind (arith, nat_tests)

pub digit_no_letter : (b : ℕ) → is_digit b ≡ true → is_letter b ≡ false
digit_no_letter b h = grind (arith, nat_tests)

-- a byte that begins a token is not skipped
pub solid_still : (b : ℕ) (z : List ℕ) (at : Place) → is_solid b ≡ true → skip false (b ∷ z) at ≡ (b ∷ z, at)
solid_still b z at h =
    let parts = or_parts (b == 35) (is_blank b) (not-true (b == 35 || is_blank b) h) in
    rw (parts.0, parts.1) refl

-- a word that a letter begins
pub word_front : (b : ℕ) (x z : List ℕ) → is_letter b ≡ true → all_pass is_word x ≡ true → Break z → front (b ∷ (x ++ z)) ≡ (reserved (b ∷ x), length (b ∷ x))
unfolding front
word_front b x z first all at =
    let size : prefix_len is_word (x ++ z) ≡ length x = prefix_all is_word x z all (word_ends z at) in
    let more : 1 + length x ≡ suc (length x) = omega arith in
    rw (first, size, more, take_at x z (length x) refl) refl

-- a piece that begins so
pub fronts_at : (p : Program) (q : Piece) (b : ℕ) (x z : List ℕ) → spell p q ≡ b ∷ x → is_solid b ≡ true → front (b ∷ (x ++ z)) ≡ (kind_of q, length (b ∷ x)) → Fronts p q z
fronts_at p q b x z is solid at = record {
  still = λ place. rw is (solid_still b (x ++ z) place solid);
  token = rw is at;
  some = rw is (omega arith);
}

abbrev pub is_word_text : List ℕ → Bool
is_word_text [] = false
is_word_text (b ∷ x) = is_letter b && all_pass is_word x

pub word_fronts : (p : Program) (q : Piece) (z : List ℕ) → is_word_text (spell p q) ≡ true → reserved (spell p q) ≡ kind_of q → Break z → Fronts p q z
word_fronts p q z word kind at = by (spell p q) refl word
  where
    by : (w : List ℕ) → spell p q ≡ w → is_word_text w ≡ true → Fronts p q z
    by [] is word = absurd cc
    by (b ∷ x) is word =
        let parts = and_parts (is_letter b) (all_pass is_word x) word in
        fronts_at p q b x z is (letter_solid b parts.0) (word_front b x z parts.0 parts.1 at ∙ ap (λ (r : Kind). (r, length (b ∷ x))) (ap reserved (sym is) ∙ kind))

-- ---- words that are no names

module _ (p : Program) (z : List ℕ) where
  pub fixed : (kind : Kind) (bare : Bare kind) → is_word_text (kind_text kind) ≡ true → reserved (kind_text kind) ≡ kind → Break z → Fronts p (plain kind bare) z
  fixed kind bare word is at = word_fronts p (plain kind bare) z word is at

  -- a mark that nothing goes on with
  pub fronts_mark : (kind : Kind) (bare : Bare kind) (b : ℕ) → kind_text kind ≡ b ∷ [] → is_solid b ≡ true → front (b ∷ z) ≡ (kind, 1) → Fronts p (plain kind bare) z
  fronts_mark kind bare b is solid at = fronts_at p (plain kind bare) b [] z is solid at
