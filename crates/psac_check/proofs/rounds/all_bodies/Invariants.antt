use Rattle.std.proofs.Common.{◌≡◌, drop}
use Rattle.psac_model.specs.Series.{bodies}
use Rattle.psac_check.proofs.rounds.all_bodies.Given as goal

abbrev pub invariant-loop-func : goal.invariant-loop-func
invariant-loop-func l = bodies l.funcs (drop l.func-index l.funcs) ≡ bodies l.funcs l.funcs
