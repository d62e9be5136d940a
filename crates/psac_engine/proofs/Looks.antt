-- What a look at the table of values tells.
use Rattle.std.proofs.Common.{◌≡◌, ℕ, List, Option, Some, None, ap, sym, ◌∙◌}
use Rattle.psac_ops.specs.declared.plain.Handle.{Handle}
use Rattle.psac_ops.specs.declared.plain.Plain.{Plain}
use Rattle.psac_ops.specs.Words.{of_words}
use Rattle.psac_values.specs.declared.view.ValueView.{ValueView}
use Rattle.psac_values.specs.Knowing.{Knows}
use Rattle.psac_laws.proofs.Places.{none_some}
use Rattle.psac_engine.specs.Looking.{KnownAs}

-- some value is known
abbrev pub IsKnown : ValueView → Handle → Type 0
IsKnown v m = (x : Plain) × KnownAs v m x

pub known_words : (v : ValueView) (m : Handle) → IsKnown v m → (ws : List ℕ) × Knows v m ws
known_words v m (x, (ws, n, is)) = (ws, n)

pub known_some : (v : ValueView) (m : Handle) → IsKnown v m → (ws : List ℕ) (read : Option Plain)
    → ((xs : List ℕ) → Knows v m xs → ws ≡ xs) → read ≡ of_words ws → read ≡ None → ⊥
known_some v m (x, (xs, n, is)) ws read words r none = none_some (sym none ∙ r ∙ ap of_words (words xs n) ∙ is)

pub known_told : (v : ValueView) (m : Handle) → IsKnown v m → (ws : List ℕ) (read : Option Plain) (y : Plain)
    → ((xs : List ℕ) → Knows v m xs → ws ≡ xs) → read ≡ of_words ws → read ≡ Some y → KnownAs v m y
known_told v m (x, (xs, n, is)) ws read y words r some = (xs, n, ap of_words (sym (words xs n)) ∙ sym r ∙ some)
