-- What holds of each input holds of what the heap of inputs has.
use Rattle.std.proofs.Common.{◌≡◌, ℕ, suc, pos, ◌+◌, ◌<◌, List, [], ◌∷◌, ◌++◌, length, Option, Some, None, slice_get, refl, ap, ◌∙◌, subst, arith, inl, inr, add-zero}
use Rattle.std.specs.Prelude.{option_and_then}
use Rattle.std.specs.List.{All}
use Rattle.std.proofs.lemmas.Option.{slice_get_within}
use Rattle.psac_ops.specs.declared.plain.Handle.{Handle}
use Rattle.psac_ops.specs.declared.plain.Plain.{Plain}
use Rattle.psac_ops.specs.Value.{Value, int}
use Rattle.psac_ops.specs.Named.{cell_value, renamed, same_handle}
use Rattle.psac_inputs.specs.Grid.{Grid, IsGrid, IsCellValue, cell}
use Rattle.psac_model.specs.Names.{Name, Input, Rows, Heap}
use Rattle.psac_model.specs.Fresh.{row_heap, cells_heap, grid_heap}
use Rattle.psac_laws.proofs.Places.{none_some, some_is, test_or}
use Rattle.psac_plain.proofs.Cells.{all_get}
use Rattle.psac_plain.proofs.Linked.{handles_told}
use Rattle.psac_traced.specs.Rec.{held_by}
use Rattle.psac_traced.specs.Renamed.{reads_named}

abbrev pub AllIn : (Name → Value Name → Type 0) → Heap → Type 0
AllIn Q [] = Unit {0}
AllIn Q (p ∷ h) = Q p.0 p.1 × AllIn Q h

all_append : (Q : Name → Value Name → Type 0) (a b : Heap) → AllIn Q a → AllIn Q b → AllIn Q (a ++ b)
all_append Q [] b h k = k
all_append Q (p ∷ a) b h k = (h.0, all_append Q a b h.1 k)

all_row : (Q : Name → Value Name → Type 0) (r c : ℕ) (vs : List Plain) → ((k : ℕ) (x : Plain) → slice_get vs k ≡ Some x → Q (Input r (c + k)) (cell_value x)) → AllIn Q (row_heap r c vs)
all_row Q r c [] f = tt
all_row Q r c (v ∷ vs) f = (
  subst (λ z. Q (Input r z) (cell_value v)) (add-zero c) (f 0 v refl),
  all_row Q r (c + 1) vs (λ k x e.
      let q : c + suc k ≡ (c + 1) + k = omega arith in
      subst (λ z. Q (Input r z) (cell_value x)) q (f (suc k) x e)),
)

all_cells : (Q : Name → Value Name → Type 0) (r : ℕ) (cells : List (List Plain)) → ((k c : ℕ) (row : List Plain) (x : Plain) → slice_get cells k ≡ Some row → slice_get row c ≡ Some x → Q (Input (r + k) c) (cell_value x)) → AllIn Q (cells_heap r cells)
all_cells Q r [] f = tt
all_cells Q r (row ∷ rows) f =
    all_append Q (row_heap r 0 row) (cells_heap (r + 1) rows)
    (all_row Q r 0 row (λ k x e.
    let q : k ≡ 0 + k = omega arith in
    subst (λ z. Q (Input r z) (cell_value x)) q (subst (λ z. Q (Input z k) (cell_value x)) (add-zero r) (f 0 k row x refl e))))
    (all_cells Q (r + 1) rows (λ k c more x d e.
    let q : r + suc k ≡ (r + 1) + k = omega arith in
    subst (λ z. Q (Input z c) (cell_value x)) q (f (suc k) c more x d e)))

-- what holds of each cell and of the number of rows
pub all_inputs : (Q : Name → Value Name → Type 0) (g : Grid) → Q Rows (int (pos g.rows)) → ((r c : ℕ) (x : Plain) → cell r c g ≡ Some x → Q (Input r c) (cell_value x)) → AllIn Q (grid_heap g)
all_inputs Q g rows cells = (
  rows,
  all_cells Q 0 g.cells (λ k c row x d e.
      let q : k ≡ 0 + k = omega arith in
      subst (λ z. Q (Input z c) (cell_value x)) q (cells k c x (ap (option_and_then (λ (v : List Plain). slice_get v c)) d ∙ e))),
)

pub held_from : (f : Name → Handle) (Z : Handle → Value Handle → Type 0) (heap : Heap) → AllIn (λ n y. Z (f n) (renamed f y)) heap → (m : Handle) (x : Value Handle) → held_by same_handle (reads_named f heap) m ≡ Some x → Z m x
held_from f Z [] a m x e = absurd (none_some e)
held_from f Z (p ∷ h) a m x e =
    elim (test_or (same_handle (f p.0) m)) [
      | inl t ↦
          (let q : Some (renamed f p.1) ≡ Some x = rw t at e in
          subst (λ k. Z k x) (handles_told.alone (f p.0) m t) (subst (Z (f p.0)) (some_is q) a.0))
      | inr t ↦
          (let q : held_by same_handle (reads_named f h) m ≡ Some x = rw t at e in
          held_from f Z h a.1 m x q)
    ]

then_is : {A B : Type 0} (f : A → Option B) (o : Option A) (y : B) → option_and_then f o ≡ Some y → (z : A) × (o ≡ Some z) × (f z ≡ Some y)
then_is f None y h = absurd (none_some h)
then_is f (Some z) y h = (z, refl, h)

-- a cell stands in a row
pub cell_inside : (g : Grid) → IsGrid g → (r c : ℕ) (x : Plain) → cell r c g ≡ Some x → (r < g.room) × (c < g.cols)
cell_inside g ok r c x h =
    let a = then_is (λ (row : List Plain). slice_get row c) (slice_get g.cells r) x h in
    let wide : length a.0 ≡ g.cols = all_get (λ row. length row ≡ g.cols) g.cells ok.even r a.0 a.1 in
    (omega (arith, slice_get_within g.cells r a.0 a.1, ok.whole), omega (arith, slice_get_within a.0 c x a.2, wide))

pub cell_plain : (g : Grid) → IsGrid g → (r c : ℕ) (x : Plain) → cell r c g ≡ Some x → IsCellValue x
cell_plain g ok r c x h =
    let a = then_is (λ (row : List Plain). slice_get row c) (slice_get g.cells r) x h in
    all_get IsCellValue a.0 (all_get (All IsCellValue) g.cells ok.plain r a.0 a.1) c x a.2
