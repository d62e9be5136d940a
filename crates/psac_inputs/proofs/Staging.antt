-- What each call does to the grid that a batch gives.
use Rattle.std.proofs.Common.{◌≡◌, ℕ, zero, suc, ◌+◌, ◌-◌, ◌≤◌, ◌<◌, Bool, true, false, List, [], ◌∷◌, ◌++◌, ◌∙◌, length, take, drop, replicate, arith, refl, sym, ap, append_assoc, true≢false, inl, inr, ◌⊎◌, get_or}
use Rattle.std.specs.Prelude.{All, ◌==◌, ◌||◌, fold, flat_map, map}
use Rattle.std.specs.List.{range_with_len}
use Rattle.std.proofs.lemmas.Bool.Decides.{Decides-eqb, leb_tells}
use Rattle.std.proofs.lemmas.List.Folds.{list_any-append}
use Rattle.std.proofs.lemmas.List.{append-nil, drop-drop, drop-set-lt, drop_at, length-take, replicate-append-replicate}
use Rattle.std.proofs.lemmas.List.Elements.{All-append, All-cons, All-head, All-map, All-nil, All-tail}
use Rattle.psac_ops.specs.declared.plain.Plain.{Plain}
use Rattle.psac_ops.specs.declared.plain.Plain.TheVariants.{Nil}
use Rattle.psac_inputs.specs.declared.batch.Edit.{Edit}
use Rattle.psac_inputs.specs.Grid.{Grid, IsCellValue, IsGrid, nil_rows, with_cell, with_rows}
use Rattle.psac_inputs.specs.Batch.{Batch, GoesInto, IsBatch, IsWhole, batch_rows, batch_set, empty_batch, nil_edits, put_all, same_cell, with_edit, with_edits}
use Rattle.psac_inputs.proofs.CellWrites.{even-written, length-written}
use Rattle.psac_inputs.proofs.EditLists.{all-covered, all-with_edit, covers, covers-fold, covers-with_edit, one_each-with_edit, places_same, with_edits-with_edit}
use Rattle.psac_inputs.proofs.RowEdits.{nil_rows_in, with_edits-fold}

-- edits change cells alone
pub with_edits-keeps : (es : List Edit) (g : Grid) → with_edits es g ≡ record g { cells = (with_edits es g).cells }
with_edits-keeps [] g = refl
with_edits-keeps (e ∷ es) g = with_edits-keeps es (with_cell e.row e.col e.value g)

pub length-with_edits : (es : List Edit) (g : Grid) → length (with_edits es g).cells ≡ length g.cells
length-with_edits [] g = refl
length-with_edits (e ∷ es) g =
    length-with_edits es (with_cell e.row e.col e.value g) ∙ length-written e.row e.col e.value g.cells

pub even-with_edits : (cols : ℕ) (es : List Edit) (g : Grid) → All (λ row. length row ≡ cols) g.cells → All (λ row. length row ≡ cols) (with_edits es g).cells
even-with_edits cols [] g even = even
even-with_edits cols (e ∷ es) g even =
    even-with_edits cols es (with_cell e.row e.col e.value g) (even-written cols e.row e.col e.value g.cells even)

pub put_all-keeps : (b : Batch) (g : Grid) → put_all b g ≡ record g { rows = b.rows; cells = (put_all b g).cells }
put_all-keeps b g = ap (λ (h : Grid). record h { rows = b.rows }) (with_edits-keeps b.edits g)

-- a batch without an edit
pub goes-empty : (g : Grid) → IsGrid g → GoesInto (empty_batch g) g
goes-empty g sound = record { room = refl; cols = refl; base = refl; beyond = sound.beyond }

pub empty_sound : (g : Grid) → IsGrid g → IsBatch (empty_batch g)
empty_sound g sound = record {
  fits = sound.fits;
  base = sound.within;
  within = sound.within;
  inside = All-nil _;
  plain = All-nil _;
  beyond = All-nil _;
  each = tt;
}

-- one more value
pub put_all-set : (r c : ℕ) (v : Plain) (b : Batch) (g : Grid) → IsBatch b → put_all (batch_set r c v b) g ≡ with_cell r c v (put_all b g)
put_all-set r c v b g sound =
    ap (λ (h : Grid). record h { rows = b.rows }) (with_edits-with_edit b.edits (record { row = r; col = c; value = v }) g sound.each)

pub goes-set : (r c : ℕ) (v : Plain) (b : Batch) (g : Grid) → IsBatch b → r < b.rows → GoesInto b g → GoesInto (batch_set r c v b) g
goes-set r c v b g sound low goes = record {
  room = goes.room;
  cols = goes.cols;
  base = goes.base;
  beyond = ap (λ (h : Grid). drop b.rows h.cells) (put_all-set r c v b g sound) ∙ drop-set-lt b.rows (put_all b g).cells r _ low ∙ goes.beyond;
}

pub set_sound : (r c : ℕ) (v : Plain) (b : Batch) → IsBatch b → r < b.rows → c < b.cols → IsCellValue v → IsBatch (batch_set r c v b)
set_sound r c v b sound low right is =
    let e : Edit = record { row = r; col = c; value = v } in
    record {
      fits = sound.fits;
      base = sound.base;
      within = sound.within;
      inside = all-with_edit (λ e. (e.row < b.room) × (e.col < b.cols)) b.edits e sound.inside (omega (arith, sound.within), right);
      plain = all-with_edit (λ e. IsCellValue e.value) b.edits e sound.plain is;
      beyond = all-with_edit (λ e. b.rows ≤ e.row → e.value ≡ Nil) b.edits e sound.beyond (λ high. absurd (omega arith));
      each = one_each-with_edit b.edits e sound.each;
    }

-- what holds of each edit of some rows with Nil
all_range : (P : ℕ → Type 0) (m n : ℕ) → ((k : ℕ) → n ≤ k → k < n + m → P k) → All P (range_with_len n m)
all_range P zero n all = All-nil P
all_range P (suc m) n all =
    All-cons P n (range_with_len (n + 1) m) (all n (omega arith) (omega arith)) (all_range P m (n + 1) (λ k low high. all k (omega arith) (omega arith)))

all_flat : {X Y : Type 0} (P : Y → Type 0) (f : X → List Y) (xs : List X) → All (λ x. All P (f x)) xs → All P (flat_map f xs)
all_flat P f [] all = All-nil P
all_flat P f (x ∷ xs) all =
    All-append P (f x) (flat_map f xs) (All-head (λ x. All P (f x)) x xs all) (all_flat P f xs (All-tail (λ x. All P (f x)) x xs all))

all_nils : (P : Edit → Type 0) (cols n m : ℕ) → ((r c : ℕ) → n ≤ r → r < n + m → c < cols → P (record { row = r; col = c; value = Nil }))
    → All P (flat_map (nil_edits cols) (range_with_len n m))
all_nils P cols n m all =
    all_flat P (nil_edits cols) (range_with_len n m) (all_range (λ r. All P (nil_edits cols r)) m n (λ r low high.
    All-map P (λ c. record { row = r; col = c; value = Nil }) (range_with_len 0 cols) (all_range (λ c. P (record { row = r; col = c; value = Nil })) cols 0 (λ c from below.
    all r c low high (omega arith)))))

all-fold : (P : Edit → Type 0) (xs es : List Edit) → All P es → All P xs → All P (fold with_edit es xs)
all-fold P [] es all more = all
all-fold P (x ∷ xs) es all more = all-fold P xs (with_edit es x) (all-with_edit P es x all (All-head P x xs more)) (All-tail P x xs more)

later : (k j : ℕ) → k ≤ j → (k ≡ j → ⊥) → k + 1 ≤ j
later k j low apart = grind (arith, apart)

or_right : (a b : Bool) → b ≡ true → (a || b) ≡ true
or_right true b is = refl
or_right false b is = is

or_left : (a b : Bool) → a ≡ true → (a || b) ≡ true
or_left a b is = rw is refl

-- each cell of a row has one of the edits
covers_row : (m k r : ℕ) (e : Edit) → e.row ≡ r → k ≤ e.col → e.col < k + m
    → covers (map (λ c. record { row = r; col = c; value = Nil }) (range_with_len k m)) e ≡ true
covers_row zero k r e at from below = absurd (omega arith)
covers_row (suc m) k r e at from below = by (k == e.col) (Decides-eqb k e.col) (λ past. covers_row m (k + 1) r e at past (omega arith))
  where
    by : (b : Bool) → (b ≡ true → k ≡ e.col) × (k ≡ e.col → b ≡ true)
        → (k + 1 ≤ e.col → covers (map (λ c. record { row = r; col = c; value = Nil }) (range_with_len (k + 1) m)) e ≡ true)
        → covers (map (λ c. record { row = r; col = c; value = Nil }) (range_with_len k (suc m))) e ≡ true
    by true tells rest = or_left _ _ (places_same (record { row = r; col = k; value = Nil }) e (sym at) (tells.0 refl))
    by false tells rest = or_right _ _ (rest (later k e.col from (λ same. true≢false (sym (tells.1 same)))))

-- each cell of some rows
covers_rows : (m n cols : ℕ) (e : Edit) → n ≤ e.row → e.row < n + m → e.col < cols
    → covers (flat_map (nil_edits cols) (range_with_len n m)) e ≡ true
covers_rows zero n cols e from below right = absurd (omega arith)
covers_rows (suc m) n cols e from below right = by (n == e.row) (Decides-eqb n e.row) (λ past. covers_rows m (n + 1) cols e past (omega arith) right)
  where
    parts : covers (flat_map (nil_edits cols) (range_with_len n (suc m))) e
        ≡ (covers (nil_edits cols n) e || covers (flat_map (nil_edits cols) (range_with_len (n + 1) m)) e)
    parts = list_any-append (λ x. same_cell x e) (nil_edits cols n) (flat_map (nil_edits cols) (range_with_len (n + 1) m))

    by : (b : Bool) → (b ≡ true → n ≡ e.row) × (n ≡ e.row → b ≡ true)
        → (n + 1 ≤ e.row → covers (flat_map (nil_edits cols) (range_with_len (n + 1) m)) e ≡ true)
        → covers (flat_map (nil_edits cols) (range_with_len n (suc m))) e ≡ true
    by true tells rest = parts ∙ or_left _ _ (covers_row cols 0 n e (sym (tells.0 refl)) (omega arith) (omega arith))
    by false tells rest = parts ∙ or_right _ _ (rest (later n e.row from (λ same. true≢false (sym (tells.1 same)))))

-- an edit that was there is of a row that stays, or of those rows, or has Nil
old_ones : (n : ℕ) (b : Batch) → IsBatch b
    → All (λ e. (covers (flat_map (nil_edits b.cols) (range_with_len n (b.rows - n))) e ≡ true) ⊎ (n ≤ e.row → e.value ≡ Nil)) b.edits
old_ones n b sound = λ k d low. by (get_or b.edits k d) (sound.inside k d low) (sound.beyond k d low)
  where
    Old : Edit → Type 0
    Old e = (covers (flat_map (nil_edits b.cols) (range_with_len n (b.rows - n))) e ≡ true) ⊎ (n ≤ e.row → e.value ≡ Nil)

    late : (e : Edit) → (e.row < b.room) × (e.col < b.cols) → n ≤ e.row → (b.rows ≤ e.row → e.value ≡ Nil) → Old e
    late e inside from beyond = elim (leb_tells b.rows e.row) [
      | inl past ↦ inr (λ high. beyond past.1)
      | inr low ↦ inl (covers_rows (b.rows - n) n b.cols e from (omega (arith, low.1)) inside.1)
    ]

    by : (e : Edit) → (e.row < b.room) × (e.col < b.cols) → (b.rows ≤ e.row → e.value ≡ Nil) → Old e
    by e inside beyond = elim (leb_tells n e.row) [
      | inl from ↦ late e inside from.1 beyond
      | inr low ↦ inr (λ high. absurd (omega (arith, low.1)))
    ]

pub rows_sound : (n : ℕ) (b : Batch) → IsBatch b → n ≤ b.room → IsBatch (batch_rows n b)
rows_sound n b sound low =
    let m = b.rows - n in
    let nils = flat_map (nil_edits b.cols) (range_with_len n m) in
    let IsInside : Edit → Type 0 = λ e. (e.row < b.room) × (e.col < b.cols) in
    let IsPlain : Edit → Type 0 = λ e. IsCellValue e.value in
    let IsNil : Edit → Type 0 = λ e. n ≤ e.row → e.value ≡ Nil in
    record {
      fits = sound.fits;
      base = sound.base;
      within = low;
      inside = all-fold IsInside nils b.edits sound.inside (all_nils IsInside b.cols n m (λ r c from below right. (omega (arith, sound.within), right)));
      plain = all-fold IsPlain nils b.edits sound.plain (all_nils IsPlain b.cols n m (λ r c from below right. refl));
      beyond = all-covered IsNil nils b.edits sound.each (all_nils IsNil b.cols n m (λ r c from below right. λ high. refl)) (old_ones n b sound);
      each = (with_edits-fold nils b.edits none sound.each).1;
    }
  where
    none : Grid
    none = record { opened = 0; room = 0; rows = 0; cols = 0; cells = [] }

drop-replicate : {X : Type 0} (m n : ℕ) (x : X) → drop m (replicate n x) ≡ replicate (n - m) x
drop-replicate zero n x = let e : n - 0 ≡ n = omega arith in rw e refl
drop-replicate (suc m) zero x = let e : 0 - suc m ≡ 0 = omega arith in rw e refl
drop-replicate (suc m) (suc n) x = let e : suc n - suc m ≡ n - m = omega arith in rw e (drop-replicate m n x)

-- the rows from the smaller of two numbers on hold Nil
rows_cells : (n rows room cols : ℕ) (cells : List (List Plain)) → length cells ≡ room → n ≤ room → rows ≤ room
    → drop rows cells ≡ nil_rows (room - rows) cols
    → take n cells ++ nil_rows (rows - n) cols ++ drop (n + (rows - n)) cells ≡ take n cells ++ nil_rows (room - n) cols
rows_cells n rows room cols cells whole low within nil = elim (leb_tells n rows) [
  | inl fewer ↦ (
      let at : n + (rows - n) ≡ rows = omega (arith, fewer.1) in
      let count : (rows - n) + (room - rows) ≡ room - n = omega (arith, fewer.1) in
      rw (at, nil, append_assoc (take n cells) (nil_rows (rows - n) cols) (nil_rows (room - rows) cols), replicate-append-replicate (rows - n) (room - rows) (replicate cols Nil), count) refl)
  | inr more ↦ (
      let none : rows - n ≡ 0 = omega (arith, more.1) in
      let at : n + 0 ≡ n = omega arith in
      let from : rows + (n - rows) ≡ n = omega (arith, more.1) in
      let count : (room - rows) - (n - rows) ≡ room - n = omega (arith, more.1) in
      let back : drop n cells ≡ nil_rows (room - n) cols =
      ap (λ k. drop k cells) (sym from) ∙ sym (drop-drop (n - rows) rows cells) ∙ ap (drop (n - rows)) nil ∙ drop-replicate (n - rows) (room - rows) (replicate cols Nil) ∙ ap (λ k. nil_rows k cols) count in
      rw (none, at, append-nil (take n cells), back) refl)
]

-- the staged number of rows
pub put_all-rows : (n : ℕ) (b : Batch) (g : Grid) → IsBatch b → IsGrid g → n ≤ b.room → GoesInto b g
    → put_all (batch_rows n b) g ≡ with_rows n (put_all b g)
put_all-rows n b g sound grid low goes =
    let m = b.rows - n in
    let nils = flat_map (nil_edits b.cols) (range_with_len n m) in
    let h : Grid = with_edits b.edits g in
    let size : length h.cells ≡ g.room = length-with_edits b.edits g ∙ grid.whole in
    let even : All (λ row. length row ≡ b.cols) h.cells = rw goes.cols (even-with_edits g.cols b.edits g grid.even) in
    let staged : with_edits (fold with_edit b.edits nils) g ≡ with_edits nils h = (with_edits-fold nils b.edits g sound.each).0 in
    let written = nil_rows_in m n b.cols h (omega (arith, size, low, goes.room, sound.within)) even in
    let cells = rows_cells n b.rows g.room g.cols h.cells size (omega (arith, low, goes.room)) (omega (arith, sound.within, goes.room)) goes.beyond in
    let room : h.room ≡ g.room = ap (λ (k : Grid). k.room) (with_edits-keeps b.edits g) in
    let cols : h.cols ≡ g.cols = ap (λ (k : Grid). k.cols) (with_edits-keeps b.edits g) in
    ap (λ (k : Grid). record k { rows = n }) (staged ∙ written)
    ∙ rw (goes.cols, cells, room, cols) refl

pub goes-rows : (n : ℕ) (b : Batch) (g : Grid) → IsBatch b → IsGrid g → n ≤ b.room → GoesInto b g → GoesInto (batch_rows n b) g
goes-rows n b g sound grid low goes =
    let size : length (put_all b g).cells ≡ g.room = length-with_edits b.edits g ∙ grid.whole in
    let room : (put_all b g).room ≡ g.room = ap (λ (k : Grid). k.room) (put_all-keeps b g) in
    let cols : (put_all b g).cols ≡ g.cols = ap (λ (k : Grid). k.cols) (put_all-keeps b g) in
    let front : length (take n (put_all b g).cells) ≡ n = omega (arith, length-take n (put_all b g).cells, size, low, goes.room) in
    record {
      room = goes.room;
      cols = goes.cols;
      base = goes.base;
      beyond = ap (λ (h : Grid). drop n h.cells) (put_all-rows n b g sound grid low goes)
          ∙ drop_at (take n (put_all b g).cells) (nil_rows ((put_all b g).room - n) (put_all b g).cols) n front
          ∙ rw (room, cols) refl;
    }

-- each cell of the rows that go is staged
pub whole-set : (r c : ℕ) (v : Plain) (b : Batch) → IsWhole b → IsWhole (batch_set r c v b)
whole-set r c v b whole = λ row col low high right.
    covers-with_edit (record { row = r; col = c; value = v }) b.edits (record { row = row; col = col; value = Nil }) (whole row col low high right)

pub whole-rows : (n : ℕ) (b : Batch) → IsWhole b → IsWhole (batch_rows n b)
whole-rows n b whole = λ row col low high right.
    let cell : Edit = record { row = row; col = col; value = Nil } in
    let nils = flat_map (nil_edits b.cols) (range_with_len n (b.rows - n)) in
    covers-fold nils b.edits cell (elim (leb_tells b.rows row) [
      | inl gone ↦ inl (whole row col gone.1 high right)
      | inr here ↦ inr (covers_rows (b.rows - n) n b.cols cell low (omega (arith, here.1)) right)
    ])
