use Rattle.std.proofs.Common.{◌≡◌, ◌++◌, drop}
use Rattle.psac_model.specs.Series.{params_wrong}
use Rattle.psac_check.proofs.rounds.distinct.Given as goal

abbrev pub invariant-loop-i : goal.invariant-loop-i
invariant-loop-i l = params_wrong (drop l.i l.names ++ l.more) ≡ params_wrong (l.names ++ l.more)
