-- The parts of a line.
use Rattle.std.specs.Prelude.{ℕ, ◌==◌, Bool, List, [], ◌∷◌, Option, Some, None}
use Rattle.std.specs.List.{slice_split, join_with_byte}
use Rattle.psac_report.specs.Script.{number}

abbrev pub is_space : ℕ → Bool
is_space c = c == 32

-- the parts between single spaces
abbrev pub parts_of : List ℕ → List (List ℕ)
parts_of line = slice_split is_space line

-- the parts of what is left of a line, if anything is
abbrev pub parts_left : Option (List ℕ) → List (List ℕ)
parts_left None = []
parts_left (Some left) = parts_of left

-- the number that the first part writes
abbrev pub first_number : List (List ℕ) → Option ℕ
first_number [] = None
first_number (part ∷ parts) = number part

-- the parts as they stood in the line, if there are any
abbrev pub joined : List (List ℕ) → Option (List ℕ)
joined [] = None
joined (part ∷ parts) = Some (join_with_byte 32 (part ∷ parts))
