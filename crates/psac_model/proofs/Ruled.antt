-- The series rule of each layer of an expression or a statement.
use Rattle.std.specs.Prelude.{◌≡◌, ℕ, List, Option}
use mathlib.Core.Path.{◌∙◌, ap}
use Rattle.psac_syntax.specs.declared.program.Expr.{Expr, out-Expr}
use Rattle.psac_syntax.specs.declared.program.Expr.TheOpen.{Expr-F}
use Rattle.psac_syntax.specs.declared.program.Expr.TheFolds as expr_folds
use Rattle.psac_syntax.specs.declared.program.Stmt.{Stmt, out-Stmt}
use Rattle.psac_syntax.specs.declared.program.Stmt.TheOpen.{Stmt-F}
use Rattle.psac_syntax.specs.declared.program.Stmt.TheFolds as stmt_folds
use Rattle.psac_syntax.specs.declared.program.Func.{Func}
use Rattle.psac_syntax.specs.Folds.{expr_fold, stmt_fold}
use Rattle.psac_syntax.proofs.Folds.{expr_fold_out, stmt_fold_out}
use Rattle.psac_model.specs.Series.{Breach, Scope, Rule, expr_step, expr_wrong, rule_step, rule_of}

pub expr_wrong_layer : (s : Scope) (w : List ℕ) (x : Expr) (y : Expr-F Expr) → out-Expr x ≡ y → expr_wrong s w x ≡ expr_step s w (expr_folds.map-Expr Expr (Option Breach) (expr_wrong s w) y)
unfolding expr_wrong
expr_wrong_layer s w x y p =
    expr_fold_out (Option Breach) (expr_step s w) x
    ∙ ap (λ z. expr_step s w (expr_folds.map-Expr Expr (Option Breach) (expr_fold (Option Breach) (expr_step s w)) z)) p

pub rule_of_layer : (funcs : List Func) (x : Stmt) (y : Stmt-F Stmt) → out-Stmt x ≡ y → rule_of funcs x ≡ rule_step funcs (stmt_folds.map-Stmt Stmt Rule (rule_of funcs) y)
unfolding rule_of
rule_of_layer funcs x y p =
    stmt_fold_out Rule (rule_step funcs) x
    ∙ ap (λ z. rule_step funcs (stmt_folds.map-Stmt Stmt Rule (stmt_fold Rule (rule_step funcs)) z)) p
