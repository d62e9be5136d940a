use Rattle.std.proofs.Common.{◌≡◌, ◌++◌, drop}
use Rattle.psac_plain.specs.Running.{places_of}
use Rattle.psac_plain.specs.Opened.{cell_places}
use Rattle.psac_plain.proofs.begin.push_cells.Given as goal

abbrev pub invariant-loop-row : goal.invariant-loop-row
invariant-loop-row l =
    places_of l.heap.items ++ cell_places (drop l.row l.grid.cells) ≡ places_of l.initial.heap.items ++ cell_places l.grid.cells
