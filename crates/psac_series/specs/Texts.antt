-- Lists of distinct texts.
use Rattle.std.specs.Prelude.{◌≡◌, ℕ, List, Some, slice_get}
use Rattle.psac_inputs.specs.Texts.{Texts}

-- no text stands at two places
abbrev pub AreDistinct : Texts → Type 0
AreDistinct texts = (i j : ℕ) (bytes : List ℕ) → slice_get texts i ≡ Some bytes → slice_get texts j ≡ Some bytes → i ≡ j
