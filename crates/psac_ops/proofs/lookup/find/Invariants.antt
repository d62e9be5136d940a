use Rattle.std.proofs.Common.{◌≡◌, drop}
use Rattle.std.specs.List.{position_from}
use Rattle.psac_ops.specs.Rows.{has_name}
use Rattle.psac_ops.proofs.lookup.find.Given as goal

abbrev pub invariant-loop-i : goal.invariant-loop-i
invariant-loop-i l = position_from (has_name l.name) 0 l.rows ≡ position_from (has_name l.name) l.i (drop l.i l.rows)
