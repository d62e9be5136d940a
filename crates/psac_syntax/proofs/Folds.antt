-- What a fold gives of a layer, and that it is the fold that proofs of code speak of.
use Rattle.std.specs.Prelude.{◌≡◌}
use mathlib.Core.Path.{◌∙◌, ap, sym}
use denote.Hole.Recursion.{fold_unique}
use Rattle.psac_syntax.specs.declared.program.Expr.{Expr, out-Expr, roll-Expr}
use Rattle.psac_syntax.specs.declared.program.Expr.TheOpen.{Expr-F}
use Rattle.psac_syntax.specs.declared.program.Expr.TheBlock as expr_block
use Rattle.psac_syntax.specs.declared.program.Expr.TheFolds as expr_folds
use Rattle.psac_syntax.specs.declared.program.Stmt.{Stmt, out-Stmt, roll-Stmt}
use Rattle.psac_syntax.specs.declared.program.Stmt.TheOpen.{Stmt-F}
use Rattle.psac_syntax.specs.declared.program.Stmt.TheBlock as stmt_block
use Rattle.psac_syntax.specs.declared.program.Stmt.TheFolds as stmt_folds
use denote.Hole.Carrier
use Rattle.psac_syntax.specs.Folds.{expr_fold, stmt_fold}

-- the value of a layer is what the step makes of the values of its parts
pub expr_fold_out : (A : Type 0) (step : Expr-F A → A) (e : Expr)
    → expr_fold A step e ≡ step (expr_folds.map-Expr Expr A (expr_fold A step) (out-Expr e))
unfolding expr_fold out-Expr Carrier.out
expr_fold_out A step e =
    expr_block.the_fold_is (expr_folds.family A) (expr_folds.steps A step) expr_block.member-Expr e
    ∙ ap step
    (expr_folds.map_is-Expr expr_block.the_family (expr_folds.family A)
    (expr_block.the_fold (expr_folds.family A) (expr_folds.steps A step)) (out-Expr e))

pub stmt_fold_out : (A : Type 0) (step : Stmt-F A → A) (s : Stmt)
    → stmt_fold A step s ≡ step (stmt_folds.map-Stmt Stmt A (stmt_fold A step) (out-Stmt s))
unfolding stmt_fold out-Stmt Carrier.out
stmt_fold_out A step s =
    stmt_block.the_fold_is (stmt_folds.family A) (stmt_folds.steps A step) stmt_block.member-Stmt s
    ∙ ap step
    (stmt_folds.map_is-Stmt stmt_block.the_family (stmt_folds.family A)
    (stmt_block.the_fold (stmt_folds.family A) (stmt_folds.steps A step)) (out-Stmt s))

expr_folded : (A : Type 0) → (Expr-F A → A) → (i : expr_block.the_members) → expr_block.the_family i
    → expr_folds.family A i
expr_folded A step expr_block.member-Expr = expr_folds.fold-Expr A step

expr_commutes : (A : Type 0) (step : Expr-F A → A) (i : expr_block.the_members)
    (x : (expr_block.the_bodies i).Of expr_block.the_family)
    → expr_folded A step i (Carrier.roll expr_block.the_members expr_block.the_sigs expr_block.the_carrier i x)
    ≡ expr_folds.steps A step i ((expr_block.the_bodies i).map expr_block.the_family (expr_folds.family A) (expr_folded A step) x)
unfolding expr_folded roll-Expr
expr_commutes A step expr_block.member-Expr x =
    expr_folds.fold-roll-Expr A step x
    ∙ ap step (sym (expr_folds.map_is-Expr expr_block.the_family (expr_folds.family A) (expr_folded A step) x))

-- it is the fold that proofs of code speak of
pub expr_fold_is : (A : Type 0) (step : Expr-F A → A) (e : Expr) → expr_fold A step e ≡ expr_folds.fold-Expr A step e
unfolding expr_fold expr_folded Carrier.fold
expr_fold_is A step e =
    sym (fold_unique expr_block.the_members expr_block.the_sigs expr_block.the_carrier (expr_folds.family A)
    (expr_folds.steps A step) (expr_folded A step) (expr_commutes A step) expr_block.member-Expr e)

stmt_folded : (A : Type 0) → (Stmt-F A → A) → (i : stmt_block.the_members) → stmt_block.the_family i
    → stmt_folds.family A i
stmt_folded A step stmt_block.member-Stmt = stmt_folds.fold-Stmt A step

stmt_commutes : (A : Type 0) (step : Stmt-F A → A) (i : stmt_block.the_members)
    (x : (stmt_block.the_bodies i).Of stmt_block.the_family)
    → stmt_folded A step i (Carrier.roll stmt_block.the_members stmt_block.the_sigs stmt_block.the_carrier i x)
    ≡ stmt_folds.steps A step i ((stmt_block.the_bodies i).map stmt_block.the_family (stmt_folds.family A) (stmt_folded A step) x)
unfolding stmt_folded roll-Stmt
stmt_commutes A step stmt_block.member-Stmt x =
    stmt_folds.fold-roll-Stmt A step x
    ∙ ap step (sym (stmt_folds.map_is-Stmt stmt_block.the_family (stmt_folds.family A) (stmt_folded A step) x))

-- it is the fold that proofs of code speak of
pub stmt_fold_is : (A : Type 0) (step : Stmt-F A → A) (s : Stmt) → stmt_fold A step s ≡ stmt_folds.fold-Stmt A step s
unfolding stmt_fold stmt_folded Carrier.fold
stmt_fold_is A step s =
    sym (fold_unique stmt_block.the_members stmt_block.the_sigs stmt_block.the_carrier (stmt_folds.family A)
    (stmt_folds.steps A step) (stmt_folded A step) (stmt_commutes A step) stmt_block.member-Stmt s)
