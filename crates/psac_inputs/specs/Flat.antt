-- How a grid keeps its cells: row after row in one list.
use Rattle.std.specs.Prelude.{◌≡◌, ℕ, ◌-◌, ◌*◌, ◌≤◌, All, List, length, drop, replicate}
use Rattle.psac_ops.specs.declared.plain.Plain.{Plain}
use Rattle.psac_ops.specs.declared.plain.Plain.TheVariants.{Nil}
use Rattle.psac_inputs.specs.Grid.{Grid, IsCellValue, most_cells, rows_of}
use Rattle.psac_inputs.specs.declared.grid.Grid.TheInside.{Inside}

abbrev pub flat_grid : (opened room rows cols : ℕ) → List Plain → Grid
flat_grid opened room rows cols cells =
    record { opened = opened; room = room; rows = rows; cols = cols; cells = rows_of cols room cells }

abbrev pub shown : Inside → Grid
shown i = flat_grid i.opened i.room i.rows i.cols i.cells.items

pub record IsFlat (i : Inside) : Type 0 where
  pub fits : i.room * i.cols ≤ most_cells
  pub within : i.rows ≤ i.room
  pub whole : length i.cells.items ≡ i.room * i.cols
  pub plain : All IsCellValue i.cells.items
  pub beyond : drop (i.rows * i.cols) i.cells.items ≡ replicate ((i.room - i.rows) * i.cols) Nil
