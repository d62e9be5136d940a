-- The cells of a bench, one more at a time.
use Rattle.std.proofs.Common.{◌≡◌, ◌∙◌, ℕ, zero, suc, ◌+◌, ◌-◌, ◌<◌, List, [], ◌∷◌, ◌++◌, length, map, Some, refl, sym, ap, arith, append_assoc}
use Rattle.std.specs.Prelude.{replicate, slice_get, slice_set}
use Rattle.std.specs.List.{range_with_len}
use Rattle.std.proofs.lemmas.List.{append-nil, set_at}
use Rattle.std.proofs.lemmas.List.FromFn.{length-map-range_with_len, map-range_with_len_more}
use Rattle.psac_ops.specs.declared.plain.Plain.{Plain}
use Rattle.psac_ops.specs.declared.plain.Plain.TheVariants.{Nil}
use Rattle.psac_inputs.specs.Grid.{Grid, grid_of, nil_rows, row_with, with_cell}
use Rattle.psac_report.specs.Report.{bench_cell, bench_grid}

-- the grid whose first cells are made
abbrev pub made_to : ℕ → ℕ → Grid
made_to n i = record { opened = n; room = n; rows = n; cols = 1; cells = map bench_cell (range_with_len 0 i) ++ nil_rows (n - i) 1 }

length-replicate : {X : Type 0} (n : ℕ) (x : X) → length (replicate n x) ≡ n
length-replicate zero x = refl
length-replicate (suc n) x = ap suc (length-replicate n x)

pub none_made : (n : ℕ) (g : Grid) → g ≡ grid_of 1 (nil_rows n 1) → g ≡ made_to n 0
none_made n g is =
    let all : n - 0 ≡ n = omega arith in
    is ∙ rw (length-replicate n (Nil ∷ []), all) refl

get_at : {X : Type 0} (xs : List X) (y : X) (ys : List X) (i : ℕ) → length xs ≡ i → slice_get (xs ++ y ∷ ys) i ≡ Some y
get_at [] y ys zero is = refl
get_at [] y ys (suc i) is = absurd (omega arith)
get_at (x ∷ xs) y ys zero is = absurd (omega arith)
get_at (x ∷ xs) y ys (suc i) is = get_at xs y ys i (omega arith)

-- the rows with another value in the row behind the first ones
row_put : (xs : List (List Plain)) (v : Plain) (ys : List (List Plain)) (i : ℕ) → length xs ≡ i
    → slice_set (xs ++ (Nil ∷ []) ∷ ys) i (row_with 0 v (slice_get (xs ++ (Nil ∷ []) ∷ ys) i)) ≡ xs ++ (v ∷ []) ∷ ys
row_put xs v ys i is =
    rw (get_at xs (Nil ∷ []) ys i is) (set_at xs (Nil ∷ []) ys (v ∷ []) i is)

rows_put : (n m i : ℕ) (v : Plain) → n - i ≡ suc m → v ∷ [] ≡ bench_cell i
    → slice_set (map bench_cell (range_with_len 0 i) ++ nil_rows (n - i) 1) i (row_with 0 v (slice_get (map bench_cell (range_with_len 0 i) ++ nil_rows (n - i) 1) i))
    ≡ map bench_cell (range_with_len 0 (i + 1)) ++ nil_rows m 1
rows_put n m i v left is =
    rw left (row_put (map bench_cell (range_with_len 0 i)) v (nil_rows m 1) i (length-map-range_with_len bench_cell 0 i)
    ∙ ap (λ x. map bench_cell (range_with_len 0 i) ++ x ∷ nil_rows m 1) is
    ∙ sym (append_assoc (map bench_cell (range_with_len 0 i)) (bench_cell i ∷ []) (nil_rows m 1))
    ∙ ap (λ xs. xs ++ nil_rows m 1) (sym (map-range_with_len_more bench_cell 0 i i (omega arith))))

pub one_more : (n i : ℕ) (v : Plain) (g h : Grid) → i < n → v ∷ [] ≡ bench_cell i → g ≡ made_to n i → h ≡ with_cell i 0 v g → h ≡ made_to n (i + 1)
one_more n i v g h low is before put =
    put ∙ ap (with_cell i 0 v) before
    ∙ ap (λ cells. let r : Grid = record { opened = n; room = n; rows = n; cols = 1; cells = cells } in r) (rows_put n (n - (i + 1)) i v (omega arith) is)

pub all_made : (n i : ℕ) (g : Grid) → i ≡ n → g ≡ made_to n i → g ≡ bench_grid n
all_made n i g all is =
    is ∙ rw (all, length-map-range_with_len bench_cell 0 n) (ap (λ cells. let r : Grid = record { opened = n; room = n; rows = n; cols = 1; cells = cells } in r) (none_left n))
  where
    none_left : (n : ℕ) → map bench_cell (range_with_len 0 n) ++ nil_rows (n - n) 1 ≡ map bench_cell (range_with_len 0 n)
    none_left n = let e : n - n ≡ 0 = omega arith in rw e (append-nil (map bench_cell (range_with_len 0 n)))

pub made_rows : (n : ℕ) (g : Grid) → g ≡ bench_grid n → g.rows ≡ n
made_rows n g is = ap (λ (h : Grid). h.rows) is ∙ length-map-range_with_len bench_cell 0 n
