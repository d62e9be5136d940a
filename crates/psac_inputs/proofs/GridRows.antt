-- Rows cut from one list.
use Rattle.std.proofs.Common.{◌≡◌, ℕ, zero, suc, ◌+◌, ◌-◌, ◌*◌, ◌≤◌, ◌<◌, List, [], ◌∷◌, ◌++◌, ◌∙◌, length, take, drop, get_or, arith, refl, sym, ap, subst, length-append, length-take, length-drop, Some, None, inl, inr, ◌⊎◌}
use Rattle.std.specs.Prelude.{All, replicate, slice_get, slice_set}
use Rattle.std.proofs.Math.Nat.{add-mul, suc-mul, zero-mul}
use Rattle.std.proofs.Math.Seq.{take-set-lt}
use Rattle.std.proofs.lemmas.Nat.{mul-le}
use Rattle.std.proofs.lemmas.List.{append_assoc, drop-append-le, drop-take, drop-drop, drop-set-add, drop-set-lt, drop_at, get_or-drop, get_or-take, length-replicate, replicate-append-replicate, take-append-drop, take-append-le, take-take, take-set-le, take_at}
use Rattle.std.proofs.lemmas.List.Elements.{All-append, All-drop, All-replicate, All-take}
use Rattle.std.proofs.lemmas.Bool.Decides.{leb_tells}
use Rattle.std.proofs.lemmas.Option.{slice_get-get_or, slice_get_past}
use Rattle.psac_ops.specs.declared.plain.Plain.{Plain}
use Rattle.psac_ops.specs.declared.plain.Plain.TheVariants.{Nil}
use Rattle.psac_inputs.specs.Grid.{Grid, IsCellValue, IsGrid, cell, grid_of, most_cells, nil_rows, row_with, rows_of, widened, with_cell}
use Rattle.psac_inputs.specs.Flat.{IsFlat, flat_grid, shown}
use Rattle.psac_inputs.specs.declared.grid.Grid.TheInside.{Inside}

pub split_mul : (rows room cols : ℕ) → rows ≤ room → (room - rows) * cols + rows * cols ≡ room * cols
split_mul rows room cols low =
    let whole : (room - rows) + rows ≡ room = omega (arith, low) in
    sym (add-mul (room - rows) rows cols) ∙ ap (λ n. n * cols) whole

-- a cell's place is below that of each later row
pub place_below : (row col rows cols : ℕ) → row < rows → col < cols → row * cols + col < rows * cols
place_below row col rows cols low right =
    let next : suc row * cols ≤ rows * cols = mul-le (suc row) cols rows cols (omega arith) (omega arith) in
    omega (arith, next, suc-mul row cols)

pub length-rows_of : (cols n : ℕ) (cells : List Plain) → length (rows_of cols n cells) ≡ n
length-rows_of cols zero cells = refl
length-rows_of cols (suc n) cells = ap suc (length-rows_of cols n (drop cols cells))

-- a row stands whole in the list
pub get_or-rows_of : (cols n k : ℕ) (cells : List Plain) (d : List Plain) → k < n
    → get_or (rows_of cols n cells) k d ≡ take cols (drop (k * cols) cells)
get_or-rows_of cols zero k cells d below = absurd (omega arith)
get_or-rows_of cols (suc n) zero cells d below = rw (zero-mul cols) refl
get_or-rows_of cols (suc n) (suc k) cells d below =
    let at : suc k * cols ≡ cols + k * cols = omega (arith, suc-mul k cols) in
    get_or-rows_of cols n k (drop cols cells) d (omega arith)
    ∙ ap (take cols) (drop-drop (k * cols) cols cells ∙ rw at refl)

pub length_row : (cols n k : ℕ) (cells : List Plain) → length cells ≡ n * cols → k < n → length (take cols (drop (k * cols) cells)) ≡ cols
length_row cols n k cells whole below =
    let next : suc k * cols ≤ n * cols = mul-le (suc k) cols n cols (omega arith) (omega arith) in
    omega (arith, next, suc-mul k cols, length-take cols (drop (k * cols) cells), length-drop (k * cols) cells)

pub slice_get-rows_of : (cols n k : ℕ) (cells : List Plain) → k < n
    → slice_get (rows_of cols n cells) k ≡ Some (take cols (drop (k * cols) cells))
slice_get-rows_of cols n k cells below =
    slice_get-get_or (rows_of cols n cells) k [] (omega (arith, length-rows_of cols n cells)) ∙ ap Some (get_or-rows_of cols n k cells [] below)

-- a cell stands in the list at its place
pub cell-shown : (i : Inside) (row col : ℕ) (value : Plain) → length i.cells.items ≡ i.room * i.cols → row < i.room → col < i.cols
    → value ≡ get_or i.cells.items (row * i.cols + col) value → cell row col (shown i) ≡ Some value
cell-shown i row col value whole low right is =
    let this = take i.cols (drop (row * i.cols) i.cells.items) in
    let at : slice_get this col ≡ Some (get_or this col value) =
    slice_get-get_or this col value (omega (arith, length_row i.cols i.room row i.cells.items whole low)) in
    let same : get_or this col value ≡ value =
    get_or-take i.cols (drop (row * i.cols) i.cells.items) col value right ∙ get_or-drop (row * i.cols) i.cells.items col value ∙ sym is in
    rw (slice_get-rows_of i.cols i.room row i.cells.items low) (at ∙ ap Some same)

-- a cell's new value is in its row alone
pub rows_of-set : (cols n row col : ℕ) (cells : List Plain) (value : Plain) → row < n → col < cols
    → rows_of cols n (slice_set cells (row * cols + col) value)
    ≡ slice_set (rows_of cols n cells) row (row_with col value (slice_get (rows_of cols n cells) row))
rows_of-set cols zero row col cells value low right = absurd (omega arith)
rows_of-set cols (suc n) zero col cells value low right =
    let at : zero * cols + col ≡ col = omega (arith, zero-mul cols) in
    rw (at, take-set-lt cols cells col value right, drop-set-lt cols cells col value right) refl
rows_of-set cols (suc n) (suc row) col cells value low right =
    let at : suc row * cols + col ≡ cols + (row * cols + col) = omega (arith, suc-mul row cols) in
    rw (at, take-set-le cols cells (cols + (row * cols + col)) value (omega arith), drop-set-add cols cells (row * cols + col) value)
    (ap (λ rows. take cols cells ∷ rows) (rows_of-set cols n row col (drop cols cells) value (omega arith) right))

-- rows of one value
pub rows_of-replicate : (cols n : ℕ) (value : Plain) → rows_of cols n (replicate (n * cols) value) ≡ replicate n (replicate cols value)
rows_of-replicate cols zero value = refl
rows_of-replicate cols (suc n) value =
    let count : suc n * cols ≡ cols + n * cols = omega (arith, suc-mul n cols) in
    let parts : replicate (suc n * cols) value ≡ replicate cols value ++ replicate (n * cols) value =
    rw count (sym (replicate-append-replicate cols (n * cols) value)) in
    let first : take cols (replicate (suc n * cols) value) ≡ replicate cols value =
    rw parts (take_at (replicate cols value) (replicate (n * cols) value) cols (length-replicate cols value)) in
    let rest : drop cols (replicate (suc n * cols) value) ≡ replicate (n * cols) value =
    rw parts (drop_at (replicate cols value) (replicate (n * cols) value) cols (length-replicate cols value)) in
    rw (first, rest) (ap (λ rows. replicate cols value ∷ rows) (rows_of-replicate cols n value))

-- dropped rows are dropped cells
pub drop-rows_of : (cols n k : ℕ) (cells : List Plain) → k ≤ n → drop k (rows_of cols n cells) ≡ rows_of cols (n - k) (drop (k * cols) cells)
drop-rows_of cols n zero cells low = let left : n - 0 ≡ n = omega arith in rw (zero-mul cols, left) refl
drop-rows_of cols zero (suc k) cells low = absurd (omega arith)
drop-rows_of cols (suc n) (suc k) cells low =
    let at : suc k * cols ≡ cols + k * cols = omega (arith, suc-mul k cols) in
    let left : suc n - suc k ≡ n - k = omega arith in
    drop-rows_of cols n k (drop cols cells) (omega arith) ∙ rw (drop-drop (k * cols) cols cells, at, left) refl

-- what is kept of the cells holds of the grid that they show
pub is_grid : (i : Inside) → IsFlat i → IsGrid (shown i)
is_grid i flat = record {
  fits = flat.fits;
  within = flat.within;
  whole = length-rows_of i.cols i.room i.cells.items;
  even = λ k d below.
      let low : k < i.room = omega (arith, length-rows_of i.cols i.room i.cells.items) in
      rw (get_or-rows_of i.cols i.room k i.cells.items d low) (length_row i.cols i.room k i.cells.items flat.whole low);
  plain = λ k d below.
      let low : k < i.room = omega (arith, length-rows_of i.cols i.room i.cells.items) in
      rw (get_or-rows_of i.cols i.room k i.cells.items d low)
      (All-take IsCellValue i.cols (drop (k * i.cols) i.cells.items) (All-drop IsCellValue (k * i.cols) i.cells.items flat.plain));
  beyond = drop-rows_of i.cols i.room i.rows i.cells.items flat.within
      ∙ rw flat.beyond (rows_of-replicate i.cols (i.room - i.rows) Nil);
}

pub shown_is_grid : (i : Inside) (g : Grid) → shown i ≡ g → IsFlat i → IsGrid g
shown_is_grid i g is flat = subst IsGrid is (is_grid i flat)

pub cell_of : (i : Inside) (g : Grid) (row col : ℕ) (value : Plain) → shown i ≡ g → IsFlat i → row < g.room → col < g.cols
    → value ≡ get_or i.cells.items (row * i.cols + col) value → cell row col g ≡ Some value
cell_of i g row col value is flat =
    let Says : Grid → Type 0 = λ g. row < g.room → col < g.cols → value ≡ get_or i.cells.items (row * i.cols + col) value → cell row col g ≡ Some value in
    subst Says is (λ low right at. cell-shown i row col value flat.whole low right at)

-- another value in one cell
pub shown-set : (i : Inside) (g : Grid) (row col : ℕ) (value : Plain) (cells : List Plain) → shown i ≡ g → IsFlat i
    → row < g.rows → col < g.cols → cells ≡ slice_set i.cells.items (row * i.cols + col) value
    → flat_grid i.opened i.room i.rows i.cols cells ≡ with_cell row col value g
shown-set i g row col value cells is flat =
    let Says : Grid → Type 0 = λ g. row < g.rows → col < g.cols → cells ≡ slice_set i.cells.items (row * i.cols + col) value
    → flat_grid i.opened i.room i.rows i.cols cells ≡ with_cell row col value g in
    subst Says is (λ low right set.
    rw (set, rows_of-set i.cols i.room row col i.cells.items value (omega (arith, low, flat.within)) right) refl)

pub shown-rows : (rows cols : ℕ) (cells : List Plain) → flat_grid rows rows rows cols cells ≡ grid_of cols (rows_of cols rows cells)
shown-rows rows cols cells = rw (length-rows_of cols rows cells) refl

no_row : (i : Inside) (row col : ℕ) → i.room ≤ row → cell row col (shown i) ≡ None
no_row i row col high =
    rw (slice_get_past (rows_of i.cols i.room i.cells.items) row (omega (arith, length-rows_of i.cols i.room i.cells.items))) refl

no_cell : (i : Inside) (row col : ℕ) → IsFlat i → (i.room ≤ row) ⊎ (i.cols ≤ col) → cell row col (shown i) ≡ None
no_cell i row col flat (inl high) = no_row i row col high
no_cell i row col flat (inr right) = elim (leb_tells i.room row) [
  | inl high ↦ no_row i row col high.1
  | inr low ↦ (
      let this = take i.cols (drop (row * i.cols) i.cells.items) in
      rw (slice_get-rows_of i.cols i.room row i.cells.items low.1) (slice_get_past this col (omega (arith, length_row i.cols i.room row i.cells.items flat.whole low.1))))
]

-- outside the room no cell stands
pub cell_none : (i : Inside) (g : Grid) (row col : ℕ) → shown i ≡ g → IsFlat i → (i.room ≤ row) ⊎ (i.cols ≤ col) → cell row col g ≡ None
cell_none i g row col is flat out = subst (λ (g : Grid). cell row col g ≡ None) is (no_cell i row col flat out)

-- rows of Nil are cells of Nil
same_cells : (cols m : ℕ) (cells : List Plain) → length cells ≡ m * cols → rows_of cols m cells ≡ nil_rows m cols → cells ≡ replicate (m * cols) Nil
same_cells cols zero [] whole is = rw (zero-mul cols) refl
same_cells cols zero (c ∷ cs) whole is = absurd (omega (arith, zero-mul cols))
same_cells cols (suc m) cells whole is =
    let count : suc m * cols ≡ cols + m * cols = omega (arith, suc-mul m cols) in
    let first : take cols cells ≡ replicate cols Nil = cc is in
    let rest : rows_of cols m (drop cols cells) ≡ nil_rows m cols = cc is in
    let back = same_cells cols m (drop cols cells) (omega (arith, length-drop cols cells, suc-mul m cols)) rest in
    rw count (sym (take-append-drop cols cells) ∙ rw (first, back) (replicate-append-replicate cols (m * cols) Nil))

pub flat_beyond : (cols room rows : ℕ) (cells : List Plain) → length cells ≡ room * cols → rows ≤ room
    → drop rows (rows_of cols room cells) ≡ nil_rows (room - rows) cols → drop (rows * cols) cells ≡ replicate ((room - rows) * cols) Nil
flat_beyond cols room rows cells whole low is =
    let count : (room - rows) * cols + rows * cols ≡ room * cols = omega (arith, split_mul rows room cols low) in
    same_cells cols (room - rows) (drop (rows * cols) cells) (omega (arith, length-drop (rows * cols) cells, count)) (sym (drop-rows_of cols room rows cells low) ∙ is)

-- another present number, where the rows from it on hold Nil
pub flat_rows : (i : Inside) (g : Grid) (n : ℕ) → shown i ≡ g → IsFlat i → n ≤ g.room → drop n g.cells ≡ nil_rows (g.room - n) g.cols
    → IsFlat (record i { rows = n })
flat_rows i g n is flat =
    let Says : Grid → Type 0 = λ g. n ≤ g.room → drop n g.cells ≡ nil_rows (g.room - n) g.cols → IsFlat (record i { rows = n }) in
    subst Says is (λ low beyond. record {
      fits = flat.fits;
      within = low;
      whole = flat.whole;
      plain = flat.plain;
      beyond = flat_beyond i.cols i.room n i.cells.items flat.whole low beyond;
    })

-- rows of two parts
pub rows_of-append : (cols n m : ℕ) (front back : List Plain) → length front ≡ n * cols → rows_of cols (n + m) (front ++ back) ≡ rows_of cols n front ++ rows_of cols m back
rows_of-append cols zero m [] back whole = let e : 0 + m ≡ m = omega arith in rw e refl
rows_of-append cols zero m (c ∷ cs) back whole = absurd (omega (arith, zero-mul cols))
rows_of-append cols (suc n) m front back whole =
    let e : suc n + m ≡ suc (n + m) = omega arith in
    let long : cols ≤ length front = omega (arith, suc-mul n cols) in
    let rest = rows_of-append cols n m (drop cols front) back (omega (arith, length-drop cols front, suc-mul n cols)) in
    rw (e, take-append-le cols front back long, drop-append-le cols front back long) (ap (λ rows. take cols front ∷ rows) rest)

rows_of-take : (cols n m : ℕ) (cells : List Plain) → n ≤ m → rows_of cols n (take (n * cols) cells) ≡ take n (rows_of cols m cells)
rows_of-take cols zero m cells low = refl
rows_of-take cols (suc n) zero cells low = absurd (omega arith)
rows_of-take cols (suc n) (suc m) cells low =
    let count : suc n * cols ≡ cols + n * cols = omega (arith, suc-mul n cols) in
    rw (count, take-take cols (cols + n * cols) cells (omega arith), drop-take cols (n * cols) cells)
    (ap (λ rows. take cols cells ∷ rows) (rows_of-take cols n m (drop cols cells) (omega arith)))

take-replicate : {X : Type 0} (a k : ℕ) (x : X) → take a (replicate k x) ++ replicate (a - k) x ≡ replicate a x
take-replicate zero k x = let e : 0 - k ≡ 0 = omega arith in rw e refl
take-replicate (suc a) zero x = let e : suc a - 0 ≡ suc a = omega arith in rw e refl
take-replicate (suc a) (suc k) x = let e : suc a - suc k ≡ a - k = omega arith in rw e (ap (λ xs. x ∷ xs) (take-replicate a k x))

take-append_more : {X : Type 0} (n : ℕ) (xs ys : List X) → length xs ≤ n → take n (xs ++ ys) ≡ xs ++ take (n - length xs) ys
take-append_more n [] ys low = let e : n - 0 ≡ n = omega arith in rw e refl
take-append_more zero (x ∷ xs) ys low = absurd (omega arith)
take-append_more (suc n) (x ∷ xs) ys low =
    let e : suc n - suc (length xs) ≡ n - length xs = omega arith in
    rw e (ap (λ zs. x ∷ zs) (take-append_more n xs ys (omega arith)))

-- the present rows, and Nil up to another room
abbrev pub wide : Inside → ℕ → List Plain
wide i room = take (i.rows * i.cols) i.cells.items ++ replicate ((room - i.rows) * i.cols) Nil

pub resized : (i : Inside) (room : ℕ) → IsFlat i → i.rows ≤ room
    → take (room * i.cols) i.cells.items ++ replicate (room * i.cols - length i.cells.items) Nil ≡ wide i room
resized i room flat low =
    let front = take (i.rows * i.cols) i.cells.items in
    let k = (i.room - i.rows) * i.cols in
    let old : (i.room - i.rows) * i.cols + i.rows * i.cols ≡ i.room * i.cols = split_mul i.rows i.room i.cols flat.within in
    let new : (room - i.rows) * i.cols + i.rows * i.cols ≡ room * i.cols = split_mul i.rows room i.cols low in
    let size : length front ≡ i.rows * i.cols = omega (arith, length-take (i.rows * i.cols) i.cells.items, flat.whole, old) in
    let cells : i.cells.items ≡ front ++ replicate k Nil = sym (take-append-drop (i.rows * i.cols) i.cells.items) ∙ ap (λ back. front ++ back) flat.beyond in
    let first : take (room * i.cols) i.cells.items ≡ front ++ take (room * i.cols - length front) (replicate k Nil) =
    ap (take (room * i.cols)) cells ∙ take-append_more (room * i.cols) front (replicate k Nil) (omega (arith, size, new)) in
    let more : room * i.cols - length front ≡ (room - i.rows) * i.cols = omega (arith, size, new) in
    let rest : room * i.cols - length i.cells.items ≡ (room - i.rows) * i.cols - k = omega (arith, flat.whole, old, new) in
    rw (first, more, rest, append_assoc front (take ((room - i.rows) * i.cols) (replicate k Nil)) (replicate ((room - i.rows) * i.cols - k) Nil), take-replicate ((room - i.rows) * i.cols) k Nil) refl

size_wide : (i : Inside) (room : ℕ) → IsFlat i → i.rows ≤ room
    → (length (take (i.rows * i.cols) i.cells.items) ≡ i.rows * i.cols) × (length (wide i room) ≡ room * i.cols)
size_wide i room flat low =
    let front = take (i.rows * i.cols) i.cells.items in
    let back = replicate ((room - i.rows) * i.cols) Nil in
    let old : (i.room - i.rows) * i.cols + i.rows * i.cols ≡ i.room * i.cols = split_mul i.rows i.room i.cols flat.within in
    let new : (room - i.rows) * i.cols + i.rows * i.cols ≡ room * i.cols = split_mul i.rows room i.cols low in
    let size : length front ≡ i.rows * i.cols = omega (arith, length-take (i.rows * i.cols) i.cells.items, flat.whole, old) in
    (size, omega (arith, length-append front back, length-replicate ((room - i.rows) * i.cols) Nil, size, new))

pub flat_wide : (i j : Inside) → IsFlat i → i.rows ≤ j.room → j.room * j.cols ≤ most_cells → j.rows ≡ i.rows → j.cols ≡ i.cols
    → j.cells.items ≡ wide i j.room → IsFlat j
flat_wide i j flat low fits rows cols is =
    let front = take (i.rows * i.cols) i.cells.items in
    let size = size_wide i j.room flat low in
    record {
      fits = fits;
      within = omega (arith, low, rows);
      whole = ap length is ∙ size.1 ∙ rw cols refl;
      plain = subst (All IsCellValue) (sym is) (All-append IsCellValue front (replicate ((j.room - i.rows) * i.cols) Nil) (All-take IsCellValue (i.rows * i.cols) i.cells.items flat.plain) (All-replicate IsCellValue ((j.room - i.rows) * i.cols) Nil refl));
      beyond = rw (rows, cols, is) (drop_at front (replicate ((j.room - i.rows) * i.cols) Nil) (i.rows * i.cols) size.0);
    }

shown-wide : (i : Inside) (room : ℕ) (cells : List Plain) → IsFlat i → i.rows ≤ room → cells ≡ wide i room
    → flat_grid i.opened room i.rows i.cols cells ≡ widened room (shown i)
shown-wide i room cells flat low is =
    let front = take (i.rows * i.cols) i.cells.items in
    let back = replicate ((room - i.rows) * i.cols) Nil in
    let count : i.rows + (room - i.rows) ≡ room = omega (arith, low) in
    let split : rows_of i.cols (i.rows + (room - i.rows)) (front ++ back) ≡ rows_of i.cols i.rows front ++ rows_of i.cols (room - i.rows) back =
    rows_of-append i.cols i.rows (room - i.rows) front back (size_wide i room flat low).0 in
    let all : rows_of i.cols room cells ≡ take i.rows (rows_of i.cols i.room i.cells.items) ++ nil_rows (room - i.rows) i.cols =
    ap (rows_of i.cols room) is ∙ ap (λ n. rows_of i.cols n (front ++ back)) (sym count) ∙ split
    ∙ rw (rows_of-take i.cols i.rows i.room i.cells.items flat.within, rows_of-replicate i.cols (room - i.rows) Nil) refl in
    rw all refl

-- the grid with another room
pub grid-wide : (i : Inside) (g : Grid) (room : ℕ) (cells : List Plain) → shown i ≡ g → IsFlat i → i.rows ≤ room → cells ≡ wide i room
    → flat_grid i.opened room i.rows i.cols cells ≡ widened room g
grid-wide i g room cells view flat low is = shown-wide i room cells flat low is ∙ ap (widened room) view
