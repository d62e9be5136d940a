use Rattle.std.proofs.Common.{◌≡◌, ◌++◌, take, drop}
use Rattle.psac_model.specs.Series.{dests_wrong}
use Rattle.psac_check.proofs.call.dests_wrong_in.Given as goal

abbrev pub invariant-loop-i : goal.invariant-loop-i
invariant-loop-i l = dests_wrong l.scope (l.written ++ take l.i l.dests) (drop l.i l.dests) ≡ dests_wrong l.scope l.written l.dests
