-- What an input gives: the grid with its room, beside the texts.
use Rattle.std.specs.Prelude.{◌≡◌, ℕ, ◌-◌, List, length, drop, if◌then◌else◌, Bool, codes, Result, Ok, Err}
use Rattle.std.specs.Str.{bytes_eq}
use Rattle.psac_inputs.specs.declared.fault.InputFault.{InputFault}
use Rattle.psac_inputs.specs.Grid.{Grid, room_for, widened}
use Rattle.psac_inputs.specs.Texts.{Texts}
use Rattle.psac_inputs.specs.Load.{loaded_csv, loaded_lines}
use Rattle.psac_report.specs.Refused.{input_line}

-- the name of a file of lines
abbrev pub is_text_name : List ℕ → Bool
is_text_name name = bytes_eq (drop (length name - 4) name) (codes ".txt")

-- lines in a file whose name ends in `.txt`, and records of fields in every other
abbrev pub load_of : List ℕ → List ℕ → Texts → Result (Grid × Texts) InputFault
load_of name bytes texts = if is_text_name name then loaded_lines bytes texts else loaded_csv bytes texts

-- the grid of an input, with room for so many rows, and the texts with those of the input
pub record Loads (name bytes : List ℕ) (rows : ℕ) (before : Texts) (g : Grid) (texts : Texts) : Type 0 where
  pub read : Grid
  pub is_read : load_of name bytes before ≡ Ok (read, texts)
  pub is_wide : g ≡ widened (room_for rows read.rows read.cols) read

-- the line of an input that isn't taken
pub record RefusesInput (name bytes : List ℕ) (before : Texts) (text : List ℕ) : Type 0 where
  pub fault : InputFault
  pub is_fault : load_of name bytes before ≡ Err fault
  pub is_text : text ≡ input_line fault
