use Rattle.std.proofs.Common.{◌≡◌, ℕ, List, Result, Ok, Err, MatchResult, is_ok, IsUtf8, sym, ◌∙◌}
use Rattle.std.proofs.lemmas.Bool.{false_from_ne_true}
use Rattle.std.proofs.lemmas.Str.{IsUtf8-from_is_utf8, is_utf8-from_IsUtf8}
use Rattle.std.specs.Str.{is_utf8}
use Rattle.psac_tokens.proofs.text.is_text.Goals as goal

by_result : {A E : Type 0} (bytes : List ℕ) (P : A → Type 0) (Q : E → Type 0) (r : Result A E) → MatchResult r (λ s. P s × IsUtf8 bytes) (λ e. ¬ (IsUtf8 bytes) × Q e) → is_ok r ≡ is_utf8 bytes
by_result bytes P Q (Ok s) h = sym (is_utf8-from_IsUtf8 bytes h.1)
by_result bytes P Q (Err e) h = sym (false_from_ne_true (is_utf8 bytes) (λ t. h.0 (IsUtf8-from_is_utf8 bytes t)))

pub returns : goal.returns
returns c = c.is_ok.ensures.value ∙ by_result _ _ _ _ c.from_utf8.ensures.cases
