use Rattle.std.proofs.Common.{arith}
use Rattle.psac_inputs.specs.Staged.{edits_of}
use Rattle.psac_inputs.proofs.RowEdits.{nil_rows_step, room_step}
use Rattle.psac_inputs.proofs.batch.stage_rows.Goals as goal

pub loop-row-preserved : goal.loop-row-preserved
loop-row-preserved c = record {
  told = nil_rows_step (edits_of c.loop-row.edits.entries) (edits_of c.stage_row.new.edits.entries) _ c.args.cols c.loop-row.row c.args.to (omega arith) c.stage_row.ensures.edits c.loop-row.invariant.told;
  room = room_step c.loop-row.row c.args.to c.args.cols _ _ (omega arith) c.loop-row.invariant.room c.stage_row.ensures.room;
}
