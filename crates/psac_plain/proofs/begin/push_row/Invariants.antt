use Rattle.std.proofs.Common.{◌≡◌, ◌++◌, drop}
use Rattle.psac_plain.specs.Running.{places_of}
use Rattle.psac_plain.specs.Opened.{row_at, row_places}
use Rattle.psac_plain.proofs.begin.push_row.Given as goal

abbrev pub invariant-loop-col : goal.invariant-loop-col
invariant-loop-col l =
    places_of l.heap.items ++ row_places (drop l.col (row_at l.grid l.row)) ≡ places_of l.initial.heap.items ++ row_places (row_at l.grid l.row)
