-- Functions of a whole expression or statement, by what each layer gives once its parts have given theirs; they compute.
use Rattle.psac_syntax.specs.declared.program.Expr.{Expr}
use Rattle.psac_syntax.specs.declared.program.Expr.TheOpen.{Expr-F}
use Rattle.psac_syntax.specs.declared.program.Expr.TheBlock as expr_block
use Rattle.psac_syntax.specs.declared.program.Expr.TheFolds as expr_folds
use Rattle.psac_syntax.specs.declared.program.Stmt.{Stmt}
use Rattle.psac_syntax.specs.declared.program.Stmt.TheOpen.{Stmt-F}
use Rattle.psac_syntax.specs.declared.program.Stmt.TheBlock as stmt_block
use Rattle.psac_syntax.specs.declared.program.Stmt.TheFolds as stmt_folds

unfoldable pub expr_fold : (A : Type 0) → (Expr-F A → A) → Expr → A
expr_fold A step e = expr_block.the_fold (expr_folds.family A) (expr_folds.steps A step) expr_block.member-Expr e

unfoldable pub stmt_fold : (A : Type 0) → (Stmt-F A → A) → Stmt → A
stmt_fold A step s = stmt_block.the_fold (stmt_folds.family A) (stmt_folds.steps A step) stmt_block.member-Stmt s
