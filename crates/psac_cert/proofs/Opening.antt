-- The names of the slots that are there before anything is made.
use Rattle.std.proofs.Common.{◌≡◌, ◌∙◌, ℕ, zero, suc, ◌+◌, ◌-◌, ◌*◌, ◌≤◌, ◌<◌, ◌==◌, ◌&&◌, Bool, true, false, cond, List, [], ◌∷◌, ◌++◌, length, Option, Some, None, refl, ap, sym, subst, arith, ◌⊎◌, inl, inr, ⊎_elim, true≢false, zero-add}
use Rattle.std.specs.Prelude.{map, unwrap_or, ◌/◌, ◌%◌, nat_lt, All, option_map}
use Rattle.std.proofs.lemmas.Bool.{cases_eq, eq-eqb, ne_eqb, eqb-true, eqb-false, lt-ltb, ltb-true, ltb-false}
use Rattle.std.proofs.lemmas.List.Elements.{All-head, All-tail}
use Rattle.std.proofs.lemmas.Nat.{div-add-mod', mod_below}
use Rattle.std.proofs.Math.Nat.{mul-le-mul_right, lt-div-mul-add, div-mul-le_self}
use Rattle.psac_ops.specs.declared.plain.Plain.{Plain}
use Rattle.psac_ops.specs.declared.plain.Handle.{Handle}
use Rattle.psac_ops.specs.Named.{same_handle}
use Rattle.psac_inputs.specs.Grid.{Grid, IsGrid}
use Rattle.psac_model.specs.Names.{Path, Name, Input, Out, Rows, Heap}
use Rattle.psac_model.specs.Fresh.{row_heap, cells_heap, grid_heap}
use Rattle.psac_naming.specs.Naming.{Naming}
use Rattle.psac_plain.specs.Opened.{first_output}
use Rattle.psac_traced.specs.Rec.{Rec}
use Rattle.psac_traced.specs.Places.{names}
use Rattle.psac_stage.specs.Places.{slot_of, place_of, out_names, opening, name_of, naming}
use Rattle.psac_cert.specs.declared.names.Place.{Place}
use Rattle.psac_cert.specs.Named.{first_of, found_in, slot_name, fixed_name, made_name}
use Rattle.psac_cert.proofs.Finding.{both_true, found-append, found_or}

abbrev names_of : Heap → List Name
names_of heap = map (λ pair. pair.0) heap

map_append : {A B : Type 0} (f : A → B) (xs ys : List A) → map f (xs ++ ys) ≡ map f xs ++ map f ys
map_append f [] ys = refl
map_append f (x ∷ xs) ys = ap (λ zs. f x ∷ zs) (map_append f xs ys)

hit : (a b : ℕ) (n : Name) (x : Option Name) → a ≡ b → cond (a == b) (Some n) x ≡ Some n
hit a b n x e = ap (λ (t : Bool). cond t (Some n) x) (eq-eqb a b e)

miss : (a b : ℕ) (n : Name) (x : Option Name) → (a ≡ b → ⊥) → cond (a == b) (Some n) x ≡ x
miss a b n x e = ap (λ (t : Bool). cond t (Some n) x) (ne_eqb a b e)

module _ (g : Grid) (outs : ℕ) where
  -- the first name of a slot
  abbrev at : List Name → ℕ → Option Name
  at [] s = None
  at (n ∷ ns) s = cond (slot_of g outs n == s) (Some n) (at ns s)

  abbrev pairs : List Name → Naming Handle
  pairs ns = map (λ n. (place_of g outs n, n)) ns

  test_by : (a : ℕ) (s n : ℕ) → n ≡ 0 → ((a == s) && (0 == n)) ≡ (a == s)
  test_by a s n e = by (a == s)
    where
      by : (t : Bool) → (t && (0 == n)) ≡ t
      by true = eq-eqb 0 n (sym e)
      by false = refl

  test_none : (t : Bool) (n : ℕ) → (n ≡ 0 → ⊥) → (t && (0 == n)) ≡ false
  test_none true n e = ne_eqb 0 n (λ z. e (sym z))
  test_none false n e = refl

  found_at : (ns : List Name) (h : Handle) → h.generation ≡ 0 → found_in (pairs ns) h ≡ at ns h.slot
  found_at [] h z = refl
  found_at (n ∷ ns) h z =
      ap (λ (t : Bool). cond t (Some n) (found_in (pairs ns) h)) (test_by (slot_of g outs n) h.slot h.generation z)
      ∙ ap (λ (x : Option Name). cond (slot_of g outs n == h.slot) (Some n) x) (found_at ns h z)

  found_none : (ns : List Name) (h : Handle) → (h.generation ≡ 0 → ⊥) → found_in (pairs ns) h ≡ None
  found_none [] h z = refl
  found_none (n ∷ ns) h z =
      ap (λ (t : Bool). cond t (Some n) (found_in (pairs ns) h)) (test_none (slot_of g outs n == h.slot) h.generation z) ∙ found_none ns h z

  at_cons : (t : Bool) (n : Name) (x y : Option Name) → cond t (Some n) (first_of x y) ≡ first_of (cond t (Some n) x) y
  at_cons true n x y = refl
  at_cons false n x y = refl

  at-append : (ns ms : List Name) (s : ℕ) → at (ns ++ ms) s ≡ first_of (at ns s) (at ms s)
  at-append [] ms s = refl
  at-append (n ∷ ns) ms s =
      ap (λ (x : Option Name). cond (slot_of g outs n == s) (Some n) x) (at-append ns ms s) ∙ at_cons (slot_of g outs n == s) n (at ns s) (at ms s)

  first_then : (ns ms : List Name) (s : ℕ) (n : Name) → at ns s ≡ Some n → at (ns ++ ms) s ≡ Some n
  first_then ns ms s n e = at-append ns ms s ∙ ap (λ (x : Option Name). first_of x (at ms s)) e

  none_then : (ns ms : List Name) (s : ℕ) → at ns s ≡ None → at (ns ++ ms) s ≡ at ms s
  none_then ns ms s e = at-append ns ms s ∙ ap (λ (x : Option Name). first_of x (at ms s)) e

  row_in : (r c j : ℕ) (row : List Plain) → c ≤ j → j < c + length row → at (names_of (row_heap r c row)) (r * g.cols + j) ≡ Some (Input r j)
  row_in r c j [] low high = absurd (omega (arith, low, high))
  row_in r c j (v ∷ row) low high = ⊎_elim
      (λ (e : c ≡ j). hit (r * g.cols + c) (r * g.cols + j) (Input r c) (at (names_of (row_heap r (c + 1) row)) (r * g.cols + j)) (ap (λ (x : ℕ). r * g.cols + x) e) ∙ ap (λ (x : ℕ). Some (Input r x)) e)
      (λ d.
      let other : c ≡ j → ⊥ = d in
      let apart : r * g.cols + c ≡ r * g.cols + j → ⊥ = λ e. other (omega (arith, e)) in
      miss (r * g.cols + c) (r * g.cols + j) (Input r c) (at (names_of (row_heap r (c + 1) row)) (r * g.cols + j)) apart
      ∙ row_in r (c + 1) j row (omega (arith, low, other)) (omega (arith, high)))
      (cases_eq c j)

  row_out : (r c s : ℕ) (row : List Plain) → r * g.cols + c + length row ≤ s → at (names_of (row_heap r c row)) s ≡ None
  row_out r c s [] high = refl
  row_out r c s (v ∷ row) high =
      let apart : r * g.cols + c ≡ s → ⊥ = λ e. omega (arith, e, high) in
      miss (r * g.cols + c) s (Input r c) (at (names_of (row_heap r (c + 1) row)) s) apart ∙ row_out r (c + 1) s row (omega (arith, high))

  row_past : (r q : ℕ) → r < q → r * g.cols + g.cols ≤ q * g.cols
  row_past r q l = let p = mul-le-mul_right {m = suc r} {n = q} g.cols (omega (arith, l)) in omega (arith, p)

  cells_in : (r q j : ℕ) (cells : List (List Plain)) → All (λ (row : List Plain). length row ≡ g.cols) cells → j < g.cols → r ≤ q → q < r + length cells
      → at (names_of (cells_heap r cells)) (q * g.cols + j) ≡ Some (Input q j)
  cells_in r q j [] even in_row low high = absurd (omega (arith, low, high))
  cells_in r q j (row ∷ more) even in_row low high =
      let wide : length row ≡ g.cols = All-head (λ (x : List Plain). length x ≡ g.cols) row more even in
      let split = ap (λ ns. at ns (q * g.cols + j)) (map_append (λ pair. pair.0) (row_heap r 0 row) (cells_heap (r + 1) more)) in
      split ∙ ⊎_elim
      (λ (e : r ≡ q). first_then (names_of (row_heap r 0 row)) (names_of (cells_heap (r + 1) more)) (q * g.cols + j) (Input q j)
      (subst (λ (x : ℕ). at (names_of (row_heap x 0 row)) (q * g.cols + j) ≡ Some (Input q j)) (sym e) (row_in q 0 j row (omega arith) (omega (arith, in_row, wide)))))
      (λ d.
      let other : r ≡ q → ⊥ = d in
      let past = row_past r q (omega (arith, low, other)) in
      none_then (names_of (row_heap r 0 row)) (names_of (cells_heap (r + 1) more)) (q * g.cols + j) (row_out r 0 (q * g.cols + j) row (omega (arith, wide, past)))
      ∙ cells_in (r + 1) q j more (All-tail (λ (x : List Plain). length x ≡ g.cols) row more even) in_row (omega (arith, low, other)) (omega (arith, high)))
      (cases_eq r q)

  cells_out : (r s : ℕ) (cells : List (List Plain)) → All (λ (row : List Plain). length row ≡ g.cols) cells → (r + length cells) * g.cols ≤ s
      → at (names_of (cells_heap r cells)) s ≡ None
  cells_out r s [] even high = refl
  cells_out r s (row ∷ more) even high =
      let wide : length row ≡ g.cols = All-head (λ (x : List Plain). length x ≡ g.cols) row more even in
      let past = row_past r (r + suc (length more)) (omega arith) in
      let next : (r + 1) + length more ≡ r + suc (length more) = omega arith in
      ap (λ ns. at ns s) (map_append (λ pair. pair.0) (row_heap r 0 row) (cells_heap (r + 1) more))
      ∙ none_then (names_of (row_heap r 0 row)) (names_of (cells_heap (r + 1) more)) s (row_out r 0 s row (omega (arith, wide, past, high)))
      ∙ cells_out (r + 1) s more (All-tail (λ (x : List Plain). length x ≡ g.cols) row more even) (subst (λ (x : ℕ). x * g.cols ≤ s) (sym next) high)

  outs_in : (k i : ℕ) (ds : List ℕ) → k ≤ i → i < k + length ds → at (out_names k ds) (first_output g + i) ≡ Some (Out i)
  outs_in k i [] low high = absurd (omega (arith, low, high))
  outs_in k i (d ∷ ds) low high = ⊎_elim
      (λ (e : k ≡ i). hit (first_output g + k) (first_output g + i) (Out k) (at (out_names (k + 1) ds) (first_output g + i)) (ap (λ (x : ℕ). first_output g + x) e) ∙ ap (λ (x : ℕ). Some (Out x)) e)
      (λ p.
      let other : k ≡ i → ⊥ = p in
      let apart : first_output g + k ≡ first_output g + i → ⊥ = λ e. other (omega (arith, e)) in
      miss (first_output g + k) (first_output g + i) (Out k) (at (out_names (k + 1) ds) (first_output g + i)) apart
      ∙ outs_in (k + 1) i ds (omega (arith, low, other)) (omega (arith, high)))
      (cases_eq k i)

  outs_out : (k s : ℕ) (ds : List ℕ) → first_output g + k + length ds ≤ s → at (out_names k ds) s ≡ None
  outs_out k s [] high = refl
  outs_out k s (d ∷ ds) high =
      let apart : first_output g + k ≡ s → ⊥ = λ e. omega (arith, e, high) in
      miss (first_output g + k) s (Out k) (at (out_names (k + 1) ds) s) apart ∙ outs_out (k + 1) s ds (omega (arith, high))

abbrev all_names : Grid → List ℕ → List Name
all_names g ds = Rows ∷ (names_of (cells_heap 0 g.cells) ++ out_names 0 ds)

-- where there are cells there are columns
has_columns : (room cols : ℕ) → 0 < room * cols → 0 < cols
has_columns room zero l = absurd (omega (arith, l))
has_columns room (suc cols) l = omega arith

le_or_lt : (a b : ℕ) → (a ≤ b) ⊎ (b < a)
le_or_lt a b = by (nat_lt b a) refl
  where
    by : (t : Bool) → nat_lt b a ≡ t → (a ≤ b) ⊎ (b < a)
    by true is = inr (ltb-true b a is)
    by false is = inl (ltb-false b a is)

ap_both : (a b : Bool) → a ≡ true → b ≡ true → (a && b) ≡ true
ap_both true true is also = refl
ap_both true false is also = also
ap_both false b is also = is

true_false : {b : Bool} → b ≡ true → b ≡ false → ⊥
true_false is is_not = true≢false (sym is ∙ is_not)

-- a slot below the room's cells is in a row below the room
row_below : (s q j cols room : ℕ) → q * cols + j ≡ s → s < room * cols → q < room
row_below s q j cols room whole low = ⊎_elim
    (λ (l : room ≤ q). let p = mul-le-mul_right {m = room} {n = q} cols l in absurd (omega (arith, p, whole, low)))
    (λ (l : q < room). l)
    (le_or_lt room q)

-- the slots by their places
module _ (g : Grid) (ds : List ℕ) (is : IsGrid g) where
  abbrev rest : ℕ → Option Name
  rest s = at g (length ds) (names_of (cells_heap 0 g.cells) ++ out_names 0 ds) s

  past_rows : (s : ℕ) → (first_output g + length ds ≡ s → ⊥) → at g (length ds) (all_names g ds) s ≡ rest s
  past_rows s other = miss (first_output g + length ds) s Rows (rest s) other

  cell_slot : (s : ℕ) → s < first_output g → 0 < g.cols → at g (length ds) (all_names g ds) s ≡ Some (Input (s / g.cols) (s % g.cols))
  cell_slot s l wide =
      let below = mod_below s g.cols wide in
      let whole = div-add-mod' s g.cols in
      let high = row_below s (s / g.cols) (s % g.cols) g.cols g.room whole l in
      let w = is.whole in
      past_rows s (λ e. omega (arith, e, l))
      ∙ first_then g (length ds) (names_of (cells_heap 0 g.cells)) (out_names 0 ds) s (Input (s / g.cols) (s % g.cols))
      (subst (λ (x : ℕ). at g (length ds) (names_of (cells_heap 0 g.cells)) x ≡ Some (Input (s / g.cols) (s % g.cols))) whole
      (cells_in g (length ds) 0 (s / g.cols) (s % g.cols) g.cells is.even below (omega arith) (omega (arith, w, high))))

  no_cell : (s : ℕ) → first_output g ≤ s → rest s ≡ at g (length ds) (out_names 0 ds) s
  no_cell s low =
      none_then g (length ds) (names_of (cells_heap 0 g.cells)) (out_names 0 ds) s
      (cells_out g (length ds) 0 s g.cells is.even (subst (λ (x : ℕ). x * g.cols ≤ s) (sym (zero-add (length g.cells) ∙ is.whole)) low))

  out_slot : (s : ℕ) → first_output g ≤ s → s - first_output g < length ds → at g (length ds) (all_names g ds) s ≡ Some (Out (s - first_output g))
  out_slot s low l =
      let back : first_output g + (s - first_output g) ≡ s = omega (arith, low) in
      past_rows s (λ e. omega (arith, e, low, l)) ∙ no_cell s low
      ∙ subst (λ (x : ℕ). at g (length ds) (out_names 0 ds) x ≡ Some (Out (s - first_output g))) back (outs_in g (length ds) 0 (s - first_output g) ds (omega arith) (omega (arith, l)))

  rows_slot : (s : ℕ) → first_output g + length ds ≡ s → at g (length ds) (all_names g ds) s ≡ Some Rows
  rows_slot s e = hit (first_output g + length ds) s Rows (rest s) e

  no_slot : (s : ℕ) → first_output g + length ds < s → at g (length ds) (all_names g ds) s ≡ None
  no_slot s high = past_rows s (λ e. omega (arith, e, high)) ∙ no_cell s (omega (arith, high)) ∙ outs_out g (length ds) 0 s ds (omega (arith, high))

  behind : (s : ℕ) → first_output g ≤ s
      → cond (nat_lt (s - first_output g) (length ds)) (Some (Out (s - first_output g))) (cond ((s - first_output g) == length ds) (Some Rows) None) ≡ at g (length ds) (all_names g ds) s
  behind s low = by (nat_lt (s - first_output g) (length ds)) refl ((s - first_output g) == length ds) refl
    where
      by : (t : Bool) → nat_lt (s - first_output g) (length ds) ≡ t → (u : Bool) → ((s - first_output g) == length ds) ≡ u
          → cond t (Some (Out (s - first_output g))) (cond u (Some Rows) None) ≡ at g (length ds) (all_names g ds) s
      by true is u same = sym (out_slot s low (ltb-true (s - first_output g) (length ds) is))
      by false is true same = let e = eqb-true (s - first_output g) (length ds) same in sym (rows_slot s (omega (arith, e, low)))
      by false is false same =
          let over = ltb-false (s - first_output g) (length ds) is in
          let other : s - first_output g ≡ length ds → ⊥ = eqb-false (s - first_output g) (length ds) same in
          sym (no_slot s (omega (arith, over, other, low)))

  past_cells : (s : ℕ) → (nat_lt 0 g.cols && nat_lt s (first_output g)) ≡ false → first_output g ≤ s
  past_cells s none = ⊎_elim
      (λ (l : first_output g ≤ s). l)
      (λ (l : s < first_output g). absurd (true_false (ap_both (nat_lt 0 g.cols) (nat_lt s (first_output g)) (lt-ltb 0 g.cols (has_columns g.room g.cols (omega (arith, l)))) (lt-ltb s (first_output g) l)) none))
      (le_or_lt (first_output g) s)

  slot_named : (s : ℕ) → slot_name g.cols (first_output g) (length ds) s ≡ at g (length ds) (all_names g ds) s
  slot_named s = by (nat_lt 0 g.cols && nat_lt s (first_output g)) refl
    where
      by : (t : Bool) → (nat_lt 0 g.cols && nat_lt s (first_output g)) ≡ t
          → cond t (Some (Input (s / g.cols) (s % g.cols))) (cond (nat_lt (s - first_output g) (length ds)) (Some (Out (s - first_output g))) (cond ((s - first_output g) == length ds) (Some Rows) None))
          ≡ at g (length ds) (all_names g ds) s
      by true is =
          let both = both_true (nat_lt 0 g.cols) (nat_lt s (first_output g)) is in
          sym (cell_slot s (ltb-true s (first_output g) both.1) (ltb-true 0 g.cols both.0))
      by false is = behind s (past_cells s is)

  fixed_named : (h : Handle) → fixed_name g.cols (first_output g) (length ds) h ≡ found_in (opening g ds) h
  fixed_named h = by (h.generation == 0) refl
    where
      by : (t : Bool) → (h.generation == 0) ≡ t → cond t (slot_name g.cols (first_output g) (length ds) h.slot) None ≡ found_in (opening g ds) h
      by true is = slot_named h.slot ∙ sym (found_at g (length ds) (all_names g ds) h (eqb-true h.generation 0 is))
      by false is = sym (found_none g (length ds) (all_names g ds) h (eqb-false h.generation 0 is))

  -- the name of a modifiable: that of its slot, or that by the turns to where it was made
  pub named_by : (r : Rec Handle) (made : Option Name) (h : Handle) → made ≡ found_in (names [] r) h
      → unwrap_or (first_of (fixed_name g.cols (first_output g) (length ds) h) made) Rows ≡ name_of g ds r h
  named_by r made h e =
      ap (λ (x : Option Name). unwrap_or (first_of (fixed_name g.cols (first_output g) (length ds) h) x) Rows) e
      ∙ ap (λ (x : Option Name). unwrap_or (first_of x (found_in (names [] r) h)) Rows) (fixed_named h)
      ∙ ap (λ (x : Option Name). unwrap_or x Rows) (sym (found-append (opening g ds) (names [] r) h))
      ∙ sym (found_or (naming g ds r) h)

-- the names that are kept are the definition's
pub names_told : (g : Grid) (ds : List ℕ) (is : IsGrid g) (r : Rec Handle) (cols cells outs : ℕ) (none noted : List (Place × Path)) (start : Path) (h : Handle)
    → cols ≡ g.cols → cells ≡ g.room * g.cols → length ds ≡ outs → none ≡ [] → start ≡ []
    → made_name noted h ≡ first_of (made_name none h) (found_in (names start r) h)
    → unwrap_or (first_of (fixed_name cols cells outs h) (made_name noted h)) Rows ≡ name_of g ds r h
names_told g ds is r cols cells outs none noted start h same_cols same_cells same_outs empty root told =
    let made : made_name noted h ≡ found_in (names [] r) h =
    told ∙ ap (λ (es : List (Place × Path)). first_of (made_name es h) (found_in (names start r) h)) empty ∙ ap (λ (p : Path). found_in (names p r) h) root in
    ap (λ (n : ℕ). unwrap_or (first_of (fixed_name n cells outs h) (made_name noted h)) Rows) same_cols
    ∙ ap (λ (n : ℕ). unwrap_or (first_of (fixed_name g.cols n outs h) (made_name noted h)) Rows) same_cells
    ∙ ap (λ (n : ℕ). unwrap_or (first_of (fixed_name g.cols (first_output g) n h) (made_name noted h)) Rows) (sym same_outs)
    ∙ named_by g ds is r (made_name noted h) h made
