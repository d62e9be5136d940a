-- Where an engine keeps the inputs and outputs, and what the record that is kept shows.
use Rattle.std.specs.Prelude.{ℕ, ◌+◌, ◌*◌, List, [], ◌∷◌, ◌++◌, map, length}
use Rattle.psac_ops.specs.declared.plain.Handle.{Handle}
use Rattle.psac_ops.specs.Named.{same_handle}
use Rattle.psac_inputs.specs.Grid.{Grid}
use Rattle.psac_model.specs.declared.ends.End.TheVariants.{Done}
use Rattle.psac_model.specs.Names.{Name, Input, Out, Rows, Made, Heap}
use Rattle.psac_model.specs.Run.{Ran}
use Rattle.psac_model.specs.Fresh.{grid_heap}
use Rattle.psac_naming.specs.Naming.{Naming}
use Rattle.psac_plain.specs.Opened.{at_slot, first_output}
use Rattle.psac_traced.specs.Rec.{Rec, HeapOf, tree_of, writes}
use Rattle.psac_traced.specs.Renamed.{rec_named, reads_named}
use Rattle.psac_traced.specs.Places.{names, name_in}

-- the cells below the room, then the outputs, then the present number of rows
abbrev pub slot_of : Grid → ℕ → Name → ℕ
slot_of g outs (Input r c) = r * g.cols + c
slot_of g outs (Out i) = first_output g + i
slot_of g outs Rows = first_output g + outs
slot_of g outs (Made p) = 0

abbrev pub place_of : Grid → ℕ → Name → Handle
place_of g outs n = at_slot (slot_of g outs n)

-- as many slots as are there before anything is made
abbrev pub fixed_slots : Grid → ℕ → ℕ
fixed_slots g outs = first_output g + (outs + 1)

abbrev pub out_names : ℕ → List ℕ → List Name
out_names k [] = []
out_names k (d ∷ ds) = Out k ∷ out_names (k + 1) ds

-- the inputs and outputs with their names
abbrev pub opening : Grid → List ℕ → Naming Handle
opening g ds = map (λ n. (place_of g (length ds) n, n)) (map (λ pair. pair.0) (grid_heap g) ++ out_names 0 ds)

-- the inputs with their values
abbrev pub base_heap : Grid → List ℕ → HeapOf Handle
base_heap g ds = reads_named (place_of g (length ds)) (grid_heap g)

-- all modifiables of a record with their names: what it made is named by paths
abbrev pub naming : Grid → List ℕ → Rec Handle → Naming Handle
naming g ds r = opening g ds ++ names [] r

abbrev pub name_of : Grid → List ℕ → Rec Handle → Handle → Name
name_of g ds r = name_in same_handle (naming g ds r)

-- the inputs with what a record wrote
abbrev pub heap_of : Grid → List ℕ → Rec Handle → HeapOf Handle
heap_of g ds r = writes r ++ base_heap g ds

-- what a done record shows, with names for its modifiables: a tree and a heap
abbrev pub run_of : Grid → List ℕ → Rec Handle → Ran Name Heap
run_of g ds r =
    record { tree = tree_of (rec_named (name_of g ds r) r); heap = reads_named (name_of g ds r) (heap_of g ds r); end = Done }
