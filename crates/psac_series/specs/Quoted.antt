-- What stands between the quotes of a TEXT.
use Rattle.std.specs.Prelude.{◌≡◌, ℕ, false, ◌==◌, ◌||◌, nat_lt, List, [], ◌∷◌}

-- a byte that stands for itself: no quote, no backslash and no control character
pub record IsPlain (b : ℕ) : Type 0 where
  pub no_quote : (b == 34) ≡ false
  pub no_backslash : (b == 92) ≡ false
  pub no_control : (nat_lt b 32 || b == 127) ≡ false

-- the byte that a backslash and this byte stand for: a quote, a backslash or a line feed
pub data Escapes : ℕ → ℕ → Type 0 where
  quote : Escapes 34 34
  backslash : Escapes 92 92
  line_feed : Escapes 110 10

-- Bytes from behind an opening quote up to the closing one and with it, and the bytes that a TEXT of them stands for.
pub data Closes : List ℕ → List ℕ → Type 0 where
  close : Closes (34 ∷ []) []
  plain : (b : ℕ) (spelled bytes : List ℕ) → IsPlain b → Closes spelled bytes → Closes (b ∷ spelled) (b ∷ bytes)
  escaped : (b c : ℕ) (spelled bytes : List ℕ) → Escapes b c → Closes spelled bytes
      → Closes (92 ∷ b ∷ spelled) (c ∷ bytes)
