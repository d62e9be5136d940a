use Rattle.std.proofs.Common.{◌≡◌, find, drop}
use Rattle.psac_model.specs.Fresh.{main_of, is_named_main}
use Rattle.psac_model.proofs.main_func.main_of.Given as goal

abbrev pub invariant-loop-func : goal.invariant-loop-func
invariant-loop-func l = find (is_named_main l.program) (drop l.func-index l.func-items) ≡ main_of l.program
