-- How a batch keeps its edits: in a map from cells to values.
use Rattle.std.specs.Prelude.{List, map}
use Rattle.psac_ops.specs.declared.plain.Plain.{Plain}
use Rattle.psac_inputs.specs.declared.batch.Edit.{Edit}
use Rattle.psac_inputs.specs.declared.batch.Cell.{Cell}
use Rattle.psac_inputs.specs.declared.batch.Batch.TheInside.{Inside}
use Rattle.psac_inputs.specs.Batch.{Batch, IsBatch}

abbrev pub edit_of : Cell × Plain → Edit
edit_of p = record { row = p.0.row; col = p.0.col; value = p.1 }

abbrev pub edits_of : List (Cell × Plain) → List Edit
edits_of = map edit_of

abbrev pub shown : Inside → Batch
shown i =
    record { room = i.room; cols = i.cols; base_rows = i.base_rows; rows = i.rows; edits = edits_of i.edits.entries }

abbrev pub IsKept : Inside → Type 0
IsKept i = IsBatch (shown i)
