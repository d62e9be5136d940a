use Rattle.std.proofs.Common.{◌≡◌}
use Rattle.psac_bench.proofs.Cells.{made_to}
use Rattle.psac_bench.proofs.made.make_cells.Given as goal

abbrev pub invariant-loop-i : goal.invariant-loop-i
invariant-loop-i l = l.grid ≡ made_to l.cells l.i
