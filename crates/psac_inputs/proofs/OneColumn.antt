-- A grid of one column.
use Rattle.std.proofs.Common.{◌≡◌, ℕ, List, [], ◌∷◌, length, map, arith, refl, ap}
use Rattle.std.specs.Prelude.{min}
use Rattle.psac_ops.specs.declared.plain.Plain.{Plain}
use Rattle.psac_inputs.specs.Grid.{column_of, grid_of, rows_of}

rows_of_one : (cells : List Plain) → rows_of 1 (length cells) cells ≡ map (λ value. value ∷ []) cells
rows_of_one [] = refl
rows_of_one (value ∷ more) = ap (λ rows. (value ∷ []) ∷ rows) (rows_of_one more)

pub column_rows : (cells : List Plain) (rows cols : ℕ) → rows ≡ length cells → cols ≡ min rows 1
    → grid_of cols (rows_of cols rows cells) ≡ column_of cells
column_rows [] rows cols count is = rw (is, count) refl
column_rows (value ∷ more) rows cols count is =
    let one : cols ≡ 1 = omega arith in
    let same : min 1 (length (value ∷ more)) ≡ 1 = omega arith in
    rw (one, count, same) (ap (grid_of 1) (rows_of_one (value ∷ more)))
