-- Staged edits change no number of the grid but the present rows.
use Rattle.std.proofs.Common.{◌≡◌, refl, List, [], ◌∷◌}
use Rattle.psac_inputs.specs.declared.batch.Edit.{Edit}
use Rattle.psac_inputs.specs.Grid.{Grid, with_cell}
use Rattle.psac_inputs.specs.Batch.{with_edits}

pub room_kept : (edits : List Edit) (g : Grid) → (with_edits edits g).room ≡ g.room
room_kept [] g = refl
room_kept (e ∷ es) g = room_kept es (with_cell e.row e.col e.value g)

pub cols_kept : (edits : List Edit) (g : Grid) → (with_edits edits g).cols ≡ g.cols
cols_kept [] g = refl
cols_kept (e ∷ es) g = cols_kept es (with_cell e.row e.col e.value g)

pub opened_kept : (edits : List Edit) (g : Grid) → (with_edits edits g).opened ≡ g.opened
opened_kept [] g = refl
opened_kept (e ∷ es) g = opened_kept es (with_cell e.row e.col e.value g)
