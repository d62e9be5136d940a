-- The distinct texts of a session, and what a field is.
use Rattle.std.specs.Prelude.{ℕ, ℤ, ◌+◌, ◌&&◌, Bool, nat_lt, nat_le, if◌then◌else◌, List, [], ◌∷◌, ◌++◌, length, sum_by, Option, Some, None, Result, Ok, Err}
use Rattle.std.specs.List.{position_from}
use Rattle.std.specs.Str.{bytes_eq, is_utf8}
use Rattle.psac_ops.specs.declared.plain.TextId.{TextId}
use Rattle.psac_ops.specs.declared.plain.Plain.{Plain}
use Rattle.psac_ops.specs.declared.plain.Plain.TheVariants as plain
use Rattle.psac_ops.specs.Table.{◌>>=◌}
use Rattle.psac_inputs.specs.declared.fault.TextFault.{TextFault}
use Rattle.psac_inputs.specs.declared.fault.TextFault.TheVariants.{Utf8, Limit}
use Rattle.psac_base.specs.Number.{int_of}

-- texts in the order in which they were first seen, each as its bytes
abbrev pub Texts : Type 0
Texts = List (List ℕ)

abbrev pub most_texts : ℕ
most_texts = 65536

abbrev pub most_text_bytes : ℕ
most_text_bytes = 16777216

-- a new text is within both limits
abbrev pub has_room : List ℕ → Texts → Bool
has_room bytes texts = nat_lt (length texts) most_texts && nat_le (sum_by length texts + length bytes) most_text_bytes

abbrev pub text_id : ℕ → List ℕ → TextId
text_id place bytes = record { id = place; len = length bytes }

-- a text at its place, or at the end of the list where it is new
abbrev pub placed : List ℕ → Texts → Option ℕ → Result (TextId × Texts) TextFault
placed bytes texts (Some place) = Ok (text_id place bytes, texts)
placed bytes texts None =
    if has_room bytes texts then Ok (text_id (length texts) bytes, texts ++ bytes ∷ []) else Err Limit

-- the id of a text, and the list that has it
abbrev pub added : List ℕ → Texts → Result (TextId × Texts) TextFault
added bytes texts = if is_utf8 bytes then placed bytes texts (position_from (bytes_eq bytes) 0 texts) else Err Utf8

-- the ids of texts, and the list that has them all
abbrev pub all_added : List (List ℕ) → Texts → Result (List TextId × Texts) TextFault
all_added [] texts = Ok ([], texts)
all_added (bytes ∷ more) texts = do
  first ← added bytes texts
  rest ← all_added more first.1
  Ok (first.0 ∷ rest.0, rest.1)

abbrev pub field_by : Option ℤ → List ℕ → Texts → Result (Plain × Texts) TextFault
field_by (Some i) bytes texts = Ok (plain.Int i, texts)
field_by None bytes texts = do
  told ← added bytes texts
  Ok (plain.Text told.0, told.1)

-- a field is an Int where its bytes are one in decimal, and else a Text
abbrev pub field : List ℕ → Texts → Result (Plain × Texts) TextFault
field bytes texts = field_by (int_of bytes) bytes texts
