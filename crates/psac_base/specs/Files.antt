-- Files by name and bytes.
use Rattle.std.specs.Prelude.{ℕ, Bool, true, ◌&&◌, List, [], ◌∷◌, map, String, Vec, string_bytes, is_none}
use Rattle.psac_base.specs.Outside.{file_of}

-- the names and the bytes of files
abbrev pub named : {Z : Type 0} → List (String Z × Vec ℕ Z) → List (List ℕ × List ℕ)
named files = map (λ f. (string_bytes f.0, f.1.items)) files

-- whether no two files have one name: none has the name of an earlier one
abbrev pub names_differ : List (List ℕ × List ℕ) → Bool
names_differ [] = true
names_differ (file ∷ files) = is_none (file_of files file.0) && names_differ files
