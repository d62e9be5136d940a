-- The grid of input cells.
use Rattle.std.specs.Prelude.{◌≡◌, ℕ, zero, suc, ◌-◌, ◌*◌, ◌/◌, ◌≤◌, max, min, ◌&&◌, Bool, true, false, IsTrue, All, nat_lt, List, [], ◌∷◌, ◌++◌, length, map, take, drop, replicate, Option, Some, None, option_and_then, slice_get, slice_set}
use Rattle.psac_ops.specs.declared.plain.Plain.{Plain}
use Rattle.psac_ops.specs.declared.plain.Plain.TheVariants.{Nil, Ref, Pair}

-- the rows below the room, each a list of cells; a row that isn't below the present number holds Nil
pub record Grid : Type 0 where
  -- the number of rows that the grid was opened with
  pub opened : ℕ
  pub room : ℕ
  -- the present number of rows
  pub rows : ℕ
  pub cols : ℕ
  pub cells : List (List Plain)

abbrev pub most_cells : ℕ
most_cells = 65536

-- a cell holds no reference
abbrev pub is_cell_value : Plain → Bool
is_cell_value (Ref h) = false
is_cell_value (Pair g h) = false
is_cell_value _ = true

abbrev pub IsCellValue : Plain → Type 0
IsCellValue v = IsTrue (is_cell_value v)

-- a grid as it is opened
abbrev pub grid_of : ℕ → List (List Plain) → Grid
grid_of cols cells = record { opened = length cells; room = length cells; rows = length cells; cols = cols; cells = cells }

-- a grid of one column, or of none where there is no cell
abbrev pub column_of : List Plain → Grid
column_of cells = grid_of (min 1 (length cells)) (map (λ value. value ∷ []) cells)

-- so many rows of so many columns, from the front of a list
abbrev pub rows_of : ℕ → ℕ → List Plain → List (List Plain)
rows_of cols zero cells = []
rows_of cols (suc n) cells = take cols cells ∷ rows_of cols n (drop cols cells)

abbrev pub nil_rows : ℕ → ℕ → List (List Plain)
nil_rows n cols = replicate n (replicate cols Nil)

-- what holds of every grid
pub record IsGrid (g : Grid) : Type 0 where
  pub fits : g.room * g.cols ≤ most_cells
  pub within : g.rows ≤ g.room
  pub whole : length g.cells ≡ g.room
  pub even : All (λ row. length row ≡ g.cols) g.cells
  pub plain : All (All IsCellValue) g.cells
  pub beyond : drop g.rows g.cells ≡ nil_rows (g.room - g.rows) g.cols

abbrev pub cell : ℕ → ℕ → Grid → Option Plain
cell r c g = option_and_then (λ row. slice_get row c) (slice_get g.cells r)

-- a cell of a present row
abbrev pub has_cell : ℕ → ℕ → Grid → Bool
has_cell r c g = nat_lt r g.rows && nat_lt c g.cols

abbrev pub row_with : ℕ → Plain → Option (List Plain) → List Plain
row_with c v None = []
row_with c v (Some row) = slice_set row c v

-- the grid with another value in one cell
abbrev pub with_cell : ℕ → ℕ → Plain → Grid → Grid
with_cell r c v g = record g { cells = slice_set g.cells r (row_with c v (slice_get g.cells r)) }

-- the grid with another present number of rows, and Nil in each row that isn't below it
abbrev pub with_rows : ℕ → Grid → Grid
with_rows n g = record g { rows = n; cells = take n g.cells ++ nil_rows (g.room - n) g.cols }

-- the grid with room for so many rows: behind the present rows there is Nil
abbrev pub widened : ℕ → Grid → Grid
widened room g = record g { room = room; cells = take g.rows g.cells ++ nil_rows (room - g.rows) g.cols }

-- the room where so many rows are asked for: no fewer than there are, and no more cells than may be
abbrev pub room_for : ℕ → ℕ → ℕ → ℕ
room_for asked rows zero = rows
room_for asked rows (suc c) = max rows (min asked (most_cells / suc c))
