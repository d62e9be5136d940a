-- Staged edits put into the cells.
use Rattle.std.proofs.Common.{◌≡◌, ℕ, ◌+◌, ◌-◌, ◌*◌, ◌≤◌, ◌<◌, List, ◌∷◌, ◌∙◌, length, drop, arith, refl, ap, subst, Some}
use Rattle.std.specs.Prelude.{All, slice_get, slice_set}
use Rattle.std.proofs.lemmas.List.{drop_more}
use Rattle.std.proofs.lemmas.Option.{get_or_from_slice_get, slice_get_within}
use Rattle.psac_ops.specs.declared.plain.Plain.{Plain}
use Rattle.psac_inputs.specs.declared.batch.Edit.{Edit}
use Rattle.psac_inputs.specs.declared.grid.Grid.TheInside.{Inside}
use Rattle.psac_inputs.specs.Batch.{Batch, GoesInto, IsBatch, with_edits}
use Rattle.psac_inputs.specs.Flat.{IsFlat, flat_grid, shown}
use Rattle.psac_inputs.specs.Grid.{Grid, IsCellValue, IsGrid, nil_rows, rows_of}
use Rattle.psac_inputs.proofs.GridRows.{flat_beyond, place_below, rows_of-set}
use Rattle.psac_inputs.proofs.Staging.{with_edits-keeps}

-- what holds of the edit at a place
pub of_edit : (P : Edit → Type 0) (es : List Edit) (k : ℕ) (e : Edit) → All P es → slice_get es k ≡ Some e → P e
of_edit P es k e all is = subst P (get_or_from_slice_get es k e e is) (all k e (slice_get_within es k e is))

pub put_step : (i : Inside) (es : List Edit) (k : ℕ) (e : Edit) (target : Grid) (cells : List Plain) → e.row < i.room → e.col < i.cols
    → slice_get es k ≡ Some e → cells ≡ slice_set i.cells.items (e.row * i.cols + e.col) e.value → with_edits (drop k es) (shown i) ≡ target
    → with_edits (drop (k + 1) es) (flat_grid i.opened i.room i.rows i.cols cells) ≡ target
put_step i es k e target cells low right is set told =
    let next : drop k es ≡ e ∷ drop (k + 1) es =
    drop_more es k e (slice_get_within es k e is) ∙ ap (λ f. f ∷ drop (k + 1) es) (get_or_from_slice_get es k e e is) in
    let rest = drop (k + 1) es in
    rw (set, rows_of-set i.cols i.room e.row e.col i.cells.items e.value low right) (rw next at told)

-- the cells when all edits are put
pub flat_put : (i : Inside) (b : Batch) (g : Grid) → shown i ≡ with_edits b.edits g → IsGrid g → IsBatch b → GoesInto b g
    → length i.cells.items ≡ i.room * i.cols → All IsCellValue i.cells.items → IsFlat (record i { rows = b.rows })
flat_put i b g told grid sound goes whole plain =
    let all : shown i ≡ record g { cells = (with_edits b.edits g).cells } = told ∙ with_edits-keeps b.edits g in
    let room : i.room ≡ g.room = ap (λ (h : Grid). h.room) all in
    let cols : i.cols ≡ g.cols = ap (λ (h : Grid). h.cols) all in
    let low : b.rows ≤ i.room = omega (arith, sound.within, goes.room) in
    let nil : nil_rows (g.room - b.rows) g.cols ≡ nil_rows (i.room - b.rows) i.cols = rw (room, cols) refl in
    let beyond : drop b.rows (rows_of i.cols i.room i.cells.items) ≡ nil_rows (i.room - b.rows) i.cols =
    ap (λ (h : Grid). drop b.rows h.cells) told ∙ goes.beyond ∙ nil in
    record {
      fits = rw (room, cols) grid.fits;
      within = low;
      whole = whole;
      plain = plain;
      beyond = flat_beyond i.cols i.room b.rows i.cells.items whole low beyond;
    }

-- the place of an edit's cell
pub put_place : (i : Inside) (b : Batch) (g : Grid) (k : ℕ) (e : Edit) → i.room ≡ g.room → i.cols ≡ g.cols → IsGrid g → IsBatch b → GoesInto b g
    → slice_get b.edits k ≡ Some e
    → (e.row < i.room) × (e.col < i.cols) × (e.row * i.cols + e.col < i.room * i.cols) × (i.room * i.cols ≤ 65536)
put_place i b g k e room cols grid sound goes is =
    let here = of_edit (λ e. (e.row < b.room) × (e.col < b.cols)) b.edits k e sound.inside is in
    let low : e.row < i.room = omega (arith, here.0, room, goes.room) in
    let right : e.col < i.cols = omega (arith, here.1, cols, goes.cols) in
    (low, right, place_below e.row e.col i.room i.cols low right, rw (room, cols) grid.fits)
