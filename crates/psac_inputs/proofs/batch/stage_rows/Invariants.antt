use Rattle.std.proofs.Common.{◌≡◌, ◌-◌, ◌*◌, ◌≤◌}
use Rattle.std.specs.Prelude.{flat_map, fold}
use Rattle.std.specs.List.{range_with_len}
use Rattle.indexmap.specs.IndexMap.{spare}
use Rattle.psac_inputs.specs.Batch.{nil_edits, with_edit}
use Rattle.psac_inputs.specs.Staged.{edits_of}
use Rattle.psac_inputs.proofs.batch.stage_rows.Given as goal

abbrev pub invariant-loop-row : goal.invariant-loop-row
invariant-loop-row l = record {
  told : fold with_edit (edits_of l.edits.entries) (flat_map (nil_edits l.cols) (range_with_len l.row (l.to - l.row)))
      ≡ fold with_edit (edits_of l.fn.edits.entries) (flat_map (nil_edits l.cols) (range_with_len l.from (l.to - l.from)));
  room : (l.to - l.row) * l.cols ≤ spare l.edits;
}
