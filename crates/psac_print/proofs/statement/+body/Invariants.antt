use Rattle.std.proofs.Common.{◌≡◌, ◌++◌, drop, map}
use Rattle.psac_spelling.specs.Canonical.{stmt_text, all_lines}
use Rattle.psac_print.proofs.statement.+body.Given as goal

abbrev pub invariant-push_stmts-loop-stmt : goal.invariant-push_stmts-loop-stmt
invariant-push_stmts-loop-stmt l =
    l.text.items ++ all_lines (map (stmt_text l.program) (drop l.stmt-index l.stmts)) l.margin ≡ l.initial.text.items ++ all_lines (map (stmt_text l.program) l.stmts) l.margin
