use Rattle.std.proofs.Common.{◌≡◌, drop, map}
use Rattle.psac_model.specs.Series.{one_by_one, rule_of}
use Rattle.psac_check.proofs.body.+body.Given as goal

abbrev pub invariant-statements-loop-stmt : goal.invariant-statements-loop-stmt
invariant-statements-loop-stmt l =
    one_by_one (map (rule_of l.funcs) (drop l.stmt-index l.stmts)) l.scope l.written.items ≡ one_by_one (map (rule_of l.funcs) l.stmts) l.initial.scope l.initial.written.items
