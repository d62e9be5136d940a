-- The names of a record's modifiables, and how they are looked up.
use Rattle.std.specs.Prelude.{ℕ, ◌-◌, ◌/◌, ◌%◌, ◌==◌, ◌&&◌, nat_lt, if◌then◌else◌, List, [], ◌∷◌, Option, Some, None, option_map, unwrap_or}
use Rattle.std.specs.Map.{lookup}
use Rattle.psac_ops.specs.declared.plain.Handle.{Handle}
use Rattle.psac_ops.specs.Named.{same_handle}
use Rattle.psac_model.specs.Names.{Path, Name, Input, Out, Rows, Made}
use Rattle.psac_naming.specs.Naming.{Naming}
use Rattle.psac_cert.specs.declared.name.Name.{Name as Told}
use Rattle.psac_cert.specs.declared.name.Name.TheVariants as told
use Rattle.psac_cert.specs.declared.names.Place.{Place}
use Rattle.psac_cert.specs.declared.names.Names.{Names}

abbrev pub name_view : Told → Name
name_view (told.Input row col) = Input row col
name_view (told.Out place) = Out place
name_view told.Rows = Rows
name_view (told.Made path) = Made path.now

-- the first of two that is there
abbrev pub first_of : {A : Type 0} → Option A → Option A → Option A
first_of None y = y
first_of (Some x) y = Some x

-- the first name of a modifiable
abbrev pub found_in : Naming Handle → Handle → Option Name
found_in [] h = None
found_in (p ∷ ns) h = if same_handle p.0 h then Some p.1 else found_in ns h

-- the name of a slot that is there before anything is made: the cells row after row, then the outputs, then the number of rows
abbrev pub slot_name : ℕ → ℕ → ℕ → ℕ → Option Name
slot_name cols cells outs s =
    if nat_lt 0 cols && nat_lt s cells then Some (Input (s / cols) (s % cols)) else
    if nat_lt (s - cells) outs then Some (Out (s - cells)) else
    if (s - cells) == outs then Some Rows else None

abbrev pub fixed_name : ℕ → ℕ → ℕ → Handle → Option Name
fixed_name cols cells outs h = if h.generation == 0 then slot_name cols cells outs h.slot else None

-- the turns that are noted of a modifiable
abbrev pub path_at : List (Place × Path) → Handle → Option Path
path_at noted h = lookup (λ p. (h.slot == p.slot) && (h.generation == p.generation)) noted

abbrev pub made_name : List (Place × Path) → Handle → Option Name
made_name noted h = option_map Made (path_at noted h)

-- the name of a modifiable; one that has none is taken for the number of rows, as the definitions do
abbrev pub name_at : Names → Handle → Name
name_at ns h = unwrap_or (first_of (fixed_name ns.cols ns.cells ns.outs h) (made_name ns.made.entries h)) Rows
