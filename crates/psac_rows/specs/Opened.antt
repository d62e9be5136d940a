-- What a row is computed with.
use Rattle.std.specs.Prelude.{ℕ, pos, List, [], ◌∷◌, map, Result, Ok, Err}
use Rattle.std.specs.Fmt.{digits}
use Rattle.std.specs.Str.{is_utf8, chars}
use lib.Utf8.{encode}
use Rattle.psac_ops.specs.declared.plain.Plain.TheVariants as plain
use Rattle.psac_inputs.specs.Grid.{Grid, grid_of}
use Rattle.psac_inputs.specs.Texts.{Texts}
use Rattle.psac_inputs.specs.declared.fault.InputFault.{InputFault}
use Rattle.psac_report.specs.Refused.{breach_line, input_line}
use Rattle.psac_model.specs.declared.ends.Caps.{Caps}
use Rattle.psac_syntax.specs.Folds.{expr_fold, stmt_fold}
use Rattle.psac_syntax.specs.declared.program.Stmt.{out-Stmt}
use Rattle.psac_syntax.specs.declared.program.Expr.{out-Expr}
use denote.Hole.Carrier.{out as carrier_out, hidden, shown}
use Rattle.psac_syntax.specs.declared.program.Expr.TheBlock as expr_block
use Rattle.psac_syntax.specs.declared.program.Stmt.TheBlock as stmt_block
use Rattle.psac_model.specs.Expression.{value_of}
use Rattle.psac_model.specs.Run.{run}
use Rattle.psac_model.specs.Fresh.{fresh}
use Rattle.psac_model.specs.Redo.{redo}
use Rattle.psac_model.specs.Series.{expr_wrong, rule_of, meets, Fault}
use Rattle.psac_report.specs.Script.{command_of}
use Rattle.psac_report.specs.Session.{committed}
use Rattle.psac_report.specs.Report.{session_report, once_report, bench_report, seen_of, watch_report}
use Rattle.psac_report.specs.Dump.{dump, verdict, dump_report}

-- every definition that a row computes with is open where this one is
unfoldable pub opened : Unit {0}
unfolding hidden shown expr_block.shape-the_row-Expr-0 expr_block.shape-the_row-Expr-1 expr_block.hidden-the_row-Expr-0 expr_block.hidden-the_row-Expr-1 expr_block.shown-the_row-Expr-0 expr_block.shown-the_row-Expr-1 stmt_block.shape-the_row-Stmt-0 stmt_block.hidden-the_row-Stmt-0 stmt_block.shown-the_row-Stmt-0 expr_fold stmt_fold out-Stmt out-Expr carrier_out digits is_utf8 chars encode value_of run fresh redo expr_wrong rule_of meets command_of committed session_report once_report bench_report seen_of watch_report dump verdict dump_report
opened = tt

abbrev pub caps : Caps
caps = record { nodes = 262144; mods = 131072; links = 262144 }

-- a column of numbers
abbrev pub column : List ℕ → Grid
column ns = grid_of 1 (map (λ n. plain.Int (pos n) ∷ []) ns)

-- the line for a program that doesn't meet the series rule
abbrev pub line_told : Result (Unit {0}) Fault → List ℕ
line_told (Ok done) = []
line_told (Err fault) = breach_line fault.0 fault.1

-- a report over an input, or the line for one that isn't accepted
abbrev pub told_of : (Grid → Texts → List ℕ) → Result (Grid × Texts) InputFault → List ℕ
told_of report (Ok input) = report input.0 input.1
told_of report (Err fault) = input_line fault
