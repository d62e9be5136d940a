-- What each turn of a loop over cells or outputs adds.
use Rattle.std.proofs.Common.{◌≡◌, ℕ, suc, zero, ◌+◌, ◌<◌, ◌≤◌, List, [], ◌∷◌, ◌++◌, length, drop, Option, Some, None, slice_get, unwrap_or, option_and_then, refl, ap, sym, ◌∙◌, arith, append_assoc, append-nil}
use Rattle.std.proofs.lemmas.List.{map-append}
use Rattle.psac_ops.specs.declared.plain.Plain.{Plain}
use Rattle.psac_inputs.specs.Grid.{Grid, IsGrid, cell}
use Rattle.psac_plain.specs.Slots.{Places, map_plain}
use Rattle.psac_plain.specs.Running.{places_of}
use Rattle.psac_plain.specs.Opened.{row_at, row_places, cell_places, place_shown, places_shown}
use Rattle.psac_plain.proofs.Lists.{none_some, get_here, drop_at}
use Rattle.psac_plain.proofs.Cells.{all_get}

drop_past : {X : Type 0} (xs : List X) (n : ℕ) → length xs ≤ n → drop n xs ≡ []
drop_past [] zero h = refl
drop_past [] (suc n) h = refl
drop_past (x ∷ xs) zero h = absurd (omega arith)
drop_past (x ∷ xs) (suc n) h = drop_past xs n (omega arith)

cell_in_row : (row : Option (List Plain)) (c : ℕ) (v : Plain) → option_and_then (λ r. slice_get r c) row ≡ Some v → slice_get (unwrap_or row []) c ≡ Some v
cell_in_row (Some row) c v h = h
cell_in_row None c v h = absurd (none_some h)

pub row_pushed : (heap more : List (Option Plain)) (g : Grid) (r c : ℕ) (v : Plain) (all : Places) → cell r c g ≡ Some v → more ≡ heap ++ Some v ∷ [] → places_of heap ++ row_places (drop c (row_at g r)) ≡ all → places_of more ++ row_places (drop (c + 1) (row_at g r)) ≡ all
row_pushed heap more g r c v all h m i =
    let e : c + 1 ≡ suc c = omega arith in
    let d : drop c (row_at g r) ≡ v ∷ drop (suc c) (row_at g r) = drop_at (row_at g r) c v (cell_in_row (slice_get g.cells r) c v h) in
    rw (m, e, map-append map_plain heap (Some v ∷ []))
    (append_assoc (places_of heap) (map_plain (Some v) ∷ []) (row_places (drop (suc c) (row_at g r))) ∙ ap (λ x. places_of heap ++ row_places x) (sym d) ∙ i)

pub row_over : (g : Grid) (r c : ℕ) → IsGrid g → r < g.room → g.cols ≤ c → drop c (row_at g r) ≡ []
row_over g r c ok h i =
    let a = get_here g.cells r (omega (arith, h, ok.whole)) in
    let wide : length a.0 ≡ g.cols = all_get (λ x. length x ≡ g.cols) g.cells ok.even r a.0 a.1 in
    let e : row_at g r ≡ a.0 = ap (λ x. unwrap_or x []) a.1 in
    rw e (drop_past a.0 c (omega (arith, i, wide)))

pub row_done : (heap : List (Option Plain)) (g : Grid) (r c : ℕ) (all : Places) → IsGrid g → r < g.room → g.cols ≤ c → places_of heap ++ row_places (drop c (row_at g r)) ≡ all → places_of heap ≡ all
row_done heap g r c all ok h i e =
    sym (append-nil (places_of heap)) ∙ ap (λ x. places_of heap ++ row_places x) (sym (row_over g r c ok h i)) ∙ e

pub cells_pushed : (heap more : List (Option Plain)) (g : Grid) (r : ℕ) (all : Places) → IsGrid g → r < g.room → places_of more ≡ places_of heap ++ row_places (row_at g r) → places_of heap ++ cell_places (drop r g.cells) ≡ all → places_of more ++ cell_places (drop (r + 1) g.cells) ≡ all
cells_pushed heap more g r all ok h m i =
    let e : r + 1 ≡ suc r = omega arith in
    let a = get_here g.cells r (omega (arith, h, ok.whole)) in
    let row_is : row_at g r ≡ a.0 = ap (λ x. unwrap_or x []) a.1 in
    let d : drop r g.cells ≡ a.0 ∷ drop (suc r) g.cells = drop_at g.cells r a.0 a.1 in
    rw (m, e, row_is)
    (append_assoc (places_of heap) (row_places a.0) (cell_places (drop (suc r) g.cells)) ∙ ap (λ x. places_of heap ++ cell_places x) (sym d) ∙ i)

pub shown_next : (places : Places) (k i : ℕ) (ds : List ℕ) → i < length ds → places_shown places k (drop i ds) ≡ place_shown places k ∷ places_shown places (k + 1) (drop (i + 1) ds)
shown_next places k i ds h =
    let a = get_here ds i h in
    let d : drop i ds ≡ a.0 ∷ drop (suc i) ds = drop_at ds i a.0 a.1 in
    let e : i + 1 ≡ suc i = omega arith in
    let f : k + 1 ≡ suc k = omega arith in
    rw (d, e, f) refl
