use Rattle.std.proofs.Common.{◌≡◌, ◌+◌, ◌-◌, ◌≤◌}
use Rattle.std.specs.Prelude.{fold}
use Rattle.indexmap.specs.IndexMap.{spare}
use Rattle.psac_inputs.specs.Batch.{nil_edits, with_edit}
use Rattle.psac_inputs.specs.Staged.{edits_of}
use Rattle.psac_inputs.proofs.RowEdits.{nils_from}
use Rattle.psac_inputs.proofs.batch.stage_row.Given as goal

abbrev pub invariant-loop-col : goal.invariant-loop-col
invariant-loop-col l = record {
  told : fold with_edit (edits_of l.edits.entries) (nils_from l.row l.col (l.cols - l.col)) ≡ fold with_edit (edits_of l.fn.edits.entries) (nil_edits l.cols l.row);
  room : l.cols - l.col ≤ spare l.edits;
  used : spare l.fn.edits ≤ spare l.edits + l.col;
}
