use Rattle.std.proofs.Common.{◌≡◌, take}
use Rattle.std.specs.Prelude.{flat_map}
use Rattle.psac_spelling.specs.Canonical.{func_text}
use Rattle.psac_print.proofs.program.print.Given as goal

abbrev pub invariant-loop-func : goal.invariant-loop-func
invariant-loop-func l = l.text.items ≡ flat_map (func_text l.program) (take l.func-index l.program.funcs)
