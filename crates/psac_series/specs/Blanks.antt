-- What stands between tokens.
use Rattle.std.specs.Prelude.{◌≡◌, ℕ, false, true, ◌==◌, List, [], ◌∷◌, ◌++◌}
use Rattle.psac_model.specs.Series.{has}
use Rattle.psac_tokens.specs.Lex.{is_blank}

-- no blank and no comment begins here
abbrev pub BeginsNone : List ℕ → Type 0
BeginsNone [] = Unit {0}
BeginsNone (b ∷ z) = (is_blank b ≡ false) × ((b == 35) ≡ false)

-- What bytes leave behind the blanks and comments that they begin with. A comment goes from a `#` to the next line
-- feed, or to the end.
pub data Leaves : List ℕ → List ℕ → Type 0 where
  none : (z : List ℕ) → BeginsNone z → Leaves z z
  blank : (b : ℕ) (z rest : List ℕ) → is_blank b ≡ true → Leaves z rest → Leaves (b ∷ z) rest
  comment : (text z rest : List ℕ) → has 10 text ≡ false → Leaves (10 ∷ z) rest → Leaves (35 ∷ text ++ 10 ∷ z) rest
  last_comment : (text : List ℕ) → has 10 text ≡ false → Leaves (35 ∷ text) []
