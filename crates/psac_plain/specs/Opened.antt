-- The plain evaluator's places as a run begins, and what they show at its end.
use Rattle.std.specs.Prelude.{ℕ, suc, pos, ◌+◌, ◌*◌, List, [], ◌∷◌, ◌++◌, map, Some, None, slice_get, option_map, unwrap_or}
use Rattle.psac_ops.specs.declared.plain.Plain.{Plain}
use Rattle.psac_ops.specs.declared.plain.Handle.{Handle}
use Rattle.psac_ops.specs.declared.plain.TextId.{TextId}
use Rattle.psac_ops.specs.Value.{ref, int}
use Rattle.psac_ops.specs.Named.{value_of, same_handle}
use Rattle.psac_inputs.specs.Grid.{Grid}
use Rattle.psac_model.specs.declared.ends.Shown.{Shown}
use Rattle.psac_model.specs.declared.ends.Shown.TheVariants as shown
use Rattle.psac_model.specs.Names.{Env, bind}
use Rattle.psac_model.specs.Expression.{Setting}
use Rattle.psac_model.specs.Outputs.{shown_of}
use Rattle.psac_plain.specs.Slots.{Places, joined, cell_place}

-- the cells of a row, and none where there is no such row
abbrev pub row_at : Grid → ℕ → List Plain
row_at g r = unwrap_or (slice_get g.cells r) []

abbrev pub row_places : List Plain → Places
row_places = map (λ v. Some (value_of v))

-- the cells, row after row
abbrev pub cell_places : List (List Plain) → Places
cell_places [] = []
cell_places (row ∷ more) = row_places row ++ cell_places more

-- an empty place for each output
abbrev pub output_places : List ℕ → Places
output_places = map (λ d. None)

-- the cells below the room, then the outputs, then the present number of rows
abbrev pub opened_places : Grid → List ℕ → Places
opened_places g ds = cell_places g.cells ++ (output_places ds ++ Some (int (pos g.rows)) ∷ [])

abbrev pub first_output : Grid → ℕ
first_output g = g.room * g.cols

abbrev pub at_slot : ℕ → Handle
at_slot k = record { slot = k; generation = 0 }

-- destinations, each a reference to one of the places from one on
abbrev pub output_env : ℕ → List ℕ → Env Handle → Env Handle
output_env k [] env = env
output_env k (d ∷ ds) env = output_env (suc k) ds (bind d (ref (at_slot k)) env)

-- what expressions read over a grid, where main has so many outputs
abbrev pub setting_over : Grid → List TextId → ℕ → Setting Handle
setting_over g texts outs =
    record { opened = g.opened; room = g.room; cols = g.cols; texts = texts; cell = cell_place g.cols; row_count = at_slot (first_output g + outs); same = same_handle }

-- an output that isn't written is shown as Nil
abbrev pub place_shown : Places → ℕ → Shown
place_shown places k = unwrap_or (option_map shown_of (joined (slice_get places k))) shown.Nil

abbrev pub places_shown : Places → ℕ → List ℕ → List Shown
places_shown places k [] = []
places_shown places k (d ∷ ds) = place_shown places k ∷ places_shown places (suc k) ds
