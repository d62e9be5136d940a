-- How an input is read into a grid.
use Rattle.std.specs.Prelude.{◌≡◌, ◌⊎◌, ◌++◌, ℕ, ◌+◌, ◌*◌, ◌==◌, not, nat_lt, if◌then◌else◌, List, [], ◌∷◌, length, map, Result, Ok, Err}
use Rattle.csv.specs.Reading.{default_config, records, strip_bom}
use Rattle.psac_base.specs.Feeds.{lines_of}
use Rattle.psac_ops.specs.declared.plain.Plain.{Plain}
use Rattle.psac_ops.specs.Table.{◌>>=◌}
use Rattle.psac_inputs.specs.declared.fault.TextFault.{TextFault}
use Rattle.psac_inputs.specs.declared.fault.TextFault.TheVariants as text_fault
use Rattle.psac_inputs.specs.declared.fault.InputFault.{InputFault}
use Rattle.psac_inputs.specs.declared.fault.InputFault.TheVariants.{Utf8, Ragged, Cells, Texts as TooManyTexts, NoMemory}
use Rattle.psac_inputs.specs.Texts.{Texts, field}
use Rattle.psac_inputs.specs.Grid.{Grid, grid_of, most_cells}

-- the fault of a field, with the number of its record
abbrev pub fault_of : ℕ → TextFault → InputFault
fault_of n text_fault.Utf8 = Utf8 n
fault_of n text_fault.Limit = TooManyTexts n
fault_of n text_fault.NoMemory = NoMemory

abbrev pub fault_at : {A : Type 0} → ℕ → Result A TextFault → Result A InputFault
fault_at n (Ok x) = Ok x
fault_at n (Err e) = Err (fault_of n e)

-- the fields of the n-th record, in order
abbrev pub fields_of : ℕ → List (List ℕ) → Texts → Result (List Plain × Texts) InputFault
fields_of n [] texts = Ok ([], texts)
fields_of n (bytes ∷ more) texts = do
  first ← fault_at n (field bytes texts)
  rest ← fields_of n more first.1
  Ok (first.0 ∷ rest.0, rest.1)

-- the n-th record: as many fields as the first has, not too many cells, and then its fields
abbrev pub record_of : ℕ → ℕ → List (List ℕ) → Texts → Result (List Plain × Texts) InputFault
record_of cols n fields texts =
    if not (length fields == cols) then Err (Ragged n) else if nat_lt most_cells (n * cols) then Err (Cells n) else fields_of n fields texts

-- the records from the n-th on; the first faulty one decides
abbrev pub records_from : ℕ → ℕ → List (List (List ℕ)) → Texts → Result (List (List Plain) × Texts) InputFault
records_from cols n [] texts = Ok ([], texts)
records_from cols n (fields ∷ more) texts = do
  first ← record_of cols n fields texts
  rest ← records_from cols (n + 1) more first.1
  Ok (first.0 ∷ rest.0, rest.1)

-- as many columns as the first record has fields
abbrev pub columns : List (List (List ℕ)) → ℕ
columns [] = 0
columns (fields ∷ more) = length fields

abbrev pub loaded : List (List (List ℕ)) → Texts → Result (Grid × Texts) InputFault
loaded records texts = do
  rows ← records_from (columns records) 1 records texts
  Ok (grid_of (columns records) rows.0, rows.1)

-- each line is a record of one field
abbrev pub loaded_lines : List ℕ → Texts → Result (Grid × Texts) InputFault
loaded_lines bytes texts = loaded (map (λ line. line ∷ []) (lines_of bytes)) texts

-- the records are csv's own by its default settings, without a header row
abbrev pub loaded_csv : List ℕ → Texts → Result (Grid × Texts) InputFault
loaded_csv bytes texts = loaded (records default_config (strip_bom bytes)) texts

-- a list that goes on where another ends
abbrev pub Begins : Texts → Texts → Type 0
Begins old new = (more : Texts) × (new ≡ old ++ more)

-- what a loader answers: the grid and the texts, or the fault; memory may be wanting
abbrev pub Loads : Result (Grid × Texts) InputFault → Result Grid InputFault → Texts → Type 0
Loads told (Ok g) texts = told ≡ Ok (g, texts)
Loads told (Err e) texts = (e ≡ NoMemory) ⊎ (told ≡ Err e)
