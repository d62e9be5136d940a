-- Rows whose cells are all staged as Nil.
use Rattle.std.proofs.Common.{◌≡◌, ℕ, zero, suc, ◌+◌, ◌-◌, ◌*◌, ◌≤◌, ◌<◌, List, [], get_or, ◌∷◌, ◌++◌, ◌∙◌, length, take, drop, replicate, arith, refl, sym, ap, append_assoc, Some}
use Rattle.std.specs.Prelude.{All, fold, flat_map, map, slice_get, slice_set}
use Rattle.std.specs.List.{range_with_len}
use Rattle.std.proofs.Math.Nat.{suc-mul}
use Rattle.std.proofs.lemmas.List.{append-nil, drop-set-lt, length-replicate, length-set, set-set, set-get_or, take_all, take-append-drop, take_more_set}
use Rattle.std.proofs.lemmas.List.Elements.{All-set}
use Rattle.std.proofs.lemmas.List.Sums.{fold-append}
use Rattle.std.proofs.lemmas.Option.{get_or_from_slice_get, slice_get-get_or}
use Rattle.psac_ops.specs.declared.plain.Plain.{Plain}
use Rattle.psac_ops.specs.declared.plain.Plain.TheVariants.{Nil}
use Rattle.psac_inputs.specs.declared.batch.Edit.{Edit}
use Rattle.psac_inputs.specs.Grid.{Grid, nil_rows, with_cell}
use Rattle.psac_inputs.specs.Batch.{IsOneEach, nil_edits, with_edit, with_edits}
use Rattle.psac_inputs.proofs.CellWrites.{get-set}
use Rattle.psac_inputs.proofs.EditLists.{one_each-with_edit, with_edits-with_edit}

-- edits of single cells, one after the other
pub with_edits-fold : (xs es : List Edit) (g : Grid) → IsOneEach es
    → (with_edits (fold with_edit es xs) g ≡ with_edits xs (with_edits es g)) × IsOneEach (fold with_edit es xs)
with_edits-fold [] es g each = (refl, each)
with_edits-fold (x ∷ xs) es g each =
    let rest = with_edits-fold xs (with_edit es x) g (one_each-with_edit es x each) in
    (rest.0 ∙ ap (with_edits xs) (with_edits-with_edit es x g each), rest.1)

-- the cells of a row from a column on, as Nil
abbrev pub nils_from : ℕ → ℕ → ℕ → List Edit
nils_from r k m = map (λ c. record { row = r; col = c; value = Nil }) (range_with_len k m)

set-is : {X : Type 0} (xs : List X) (i : ℕ) (x : X) → slice_get xs i ≡ Some x → slice_set xs i x ≡ xs
set-is xs i x is = rw (← get_or_from_slice_get xs i x x is) (set-get_or xs i x)

-- the cells of a row from a column on
nils_in_row : (m k r : ℕ) (row : List Plain) (g : Grid) → slice_get g.cells r ≡ Some row → length row ≡ k + m
    → with_edits (nils_from r k m) g ≡ record g { cells = slice_set g.cells r (take k row ++ replicate m Nil) }
nils_in_row zero k r row g is whole =
    let same : take k row ++ [] ≡ row = append-nil (take k row) ∙ take_all k row (omega arith) in
    rw (same, set-is g.cells r row is) refl
nils_in_row (suc m) k r row g is whole =
    let next = slice_set row k Nil in
    let now : Grid = record g { cells = slice_set g.cells r next } in
    let first : with_cell r k Nil g ≡ now = rw is refl in
    let rest = nils_in_row m (k + 1) r next now (get-set g.cells r next row is) (omega (arith, length-set row k Nil)) in
    let front : take (k + 1) next ≡ take k row ++ Nil ∷ [] = take_more_set row k Nil (omega arith) in
    let all : take (k + 1) next ++ replicate m Nil ≡ take k row ++ replicate (suc m) Nil =
    rw front (append_assoc (take k row) (Nil ∷ []) (replicate m Nil)) in
    ap (with_edits (nils_from r (k + 1) m)) first ∙ rest ∙ rw all (ap (λ rows. record g { cells = rows }) (set-set g.cells r next (take k row ++ replicate (suc m) Nil)))

-- the cells of a row
pub nil_row : (cols r : ℕ) (g : Grid) → r < length g.cells → All (λ row. length row ≡ cols) g.cells
    → with_edits (nil_edits cols r) g ≡ record g { cells = slice_set g.cells r (replicate cols Nil) }
nil_row cols r g low even =
    let whole : length (get_or g.cells r []) ≡ 0 + cols = omega (arith, even r [] low) in
    nils_in_row cols 0 r (get_or g.cells r []) g (slice_get-get_or g.cells r [] low) whole

-- the cells of some rows
pub nil_rows_in : (m n cols : ℕ) (g : Grid) → n + m ≤ length g.cells → All (λ row. length row ≡ cols) g.cells
    → with_edits (flat_map (nil_edits cols) (range_with_len n m)) g
    ≡ record g { cells = take n g.cells ++ nil_rows m cols ++ drop (n + m) g.cells }
nil_rows_in zero n cols g low even =
    let at : n + 0 ≡ n = omega arith in
    rw (at, append-nil (take n g.cells), take-append-drop n g.cells) refl
nil_rows_in (suc m) n cols g low even =
    let row = replicate cols Nil in
    let rows = slice_set g.cells n row in
    let now : Grid = record g { cells = rows } in
    let first : with_edits (nil_edits cols n) g ≡ now = nil_row cols n g (omega arith) even in
    let size : length rows ≡ length g.cells = length-set g.cells n row in
    let rest = nil_rows_in m (n + 1) cols now (omega (arith, size)) (All-set (λ row. length row ≡ cols) g.cells n row (length-replicate cols Nil) even) in
    let front : take (n + 1) rows ≡ take n g.cells ++ row ∷ [] = take_more_set g.cells n row (omega arith) in
    let at : (n + 1) + m ≡ n + suc m = omega arith in
    let back : drop (n + suc m) rows ≡ drop (n + suc m) g.cells = drop-set-lt (n + suc m) g.cells n row (omega arith) in
    let all : take (n + 1) rows ++ nil_rows m cols ++ drop ((n + 1) + m) rows ≡ take n g.cells ++ nil_rows (suc m) cols ++ drop (n + suc m) g.cells =
    rw (at, front, back, append_assoc (take n g.cells) (row ∷ []) (nil_rows m cols)) refl in
    fold-append (λ h e. with_cell e.row e.col e.value h) g (nil_edits cols n) (flat_map (nil_edits cols) (range_with_len (n + 1) m))
    ∙ ap (with_edits (flat_map (nil_edits cols) (range_with_len (n + 1) m))) first ∙ rest ∙ ap (λ rows. record g { cells = rows }) all

-- one cell less to come
pub nil_step : (old new target : List Edit) (row col cols : ℕ) → col < cols → new ≡ with_edit old (record { row = row; col = col; value = Nil })
    → fold with_edit old (nils_from row col (cols - col)) ≡ target → fold with_edit new (nils_from row (col + 1) (cols - (col + 1))) ≡ target
nil_step old new target row col cols below is told =
    let left : cols - col ≡ suc (cols - (col + 1)) = omega (arith, below) in
    ap (λ es. fold with_edit es (nils_from row (col + 1) (cols - (col + 1)))) is ∙ (rw left at told)

-- one row less to come
pub nil_rows_step : (old new target : List Edit) (cols row end : ℕ) → row < end → new ≡ fold with_edit old (nil_edits cols row)
    → fold with_edit old (flat_map (nil_edits cols) (range_with_len row (end - row))) ≡ target
    → fold with_edit new (flat_map (nil_edits cols) (range_with_len (row + 1) (end - (row + 1)))) ≡ target
nil_rows_step old new target cols row end below is told =
    let left : end - row ≡ suc (end - (row + 1)) = omega (arith, below) in
    let rest = flat_map (nil_edits cols) (range_with_len (row + 1) (end - (row + 1))) in
    ap (λ es. fold with_edit es rest) is ∙ sym (fold-append with_edit old (nil_edits cols row) rest) ∙ (rw left at told)

pub room_step : (row end cols before after : ℕ) → row < end → (end - row) * cols ≤ before → before ≤ after + cols → (end - (row + 1)) * cols ≤ after
room_step row end cols before after below room used =
    let left : end - row ≡ suc (end - (row + 1)) = omega (arith, below) in
    let more : suc (end - (row + 1)) * cols ≤ before = rw left at room in
    omega (arith, more, suc-mul (end - (row + 1)) cols, used)
