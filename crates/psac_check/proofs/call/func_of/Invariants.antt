use Rattle.std.proofs.Common.{◌≡◌, drop}
use Rattle.psac_model.specs.Run.{func_named}
use Rattle.psac_check.proofs.call.func_of.Given as goal

abbrev pub invariant-loop-func : goal.invariant-loop-func
invariant-loop-func l = func_named l.name (drop l.func-index l.funcs) ≡ func_named l.name l.funcs
