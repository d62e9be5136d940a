-- The value of each form of an expression.
use Rattle.std.specs.Prelude.{◌≡◌, ℕ, ℤ, pos, Bool, List, map, Result, Ok, slice_get}
use mathlib.Core.Path.{◌∙◌, ap}
use Rattle.psac_ops.specs.declared.op.Op.{Op}
use Rattle.psac_ops.specs.Value.{Value, nil, bool, int, ref}
use Rattle.psac_ops.specs.Table.{applied, ◌>>=◌}
use Rattle.psac_syntax.specs.declared.program.Expr.{Expr, out-Expr}
use Rattle.psac_syntax.specs.declared.program.Expr.TheOpen.{Expr-F}
use Rattle.psac_syntax.specs.declared.program.Expr.TheVariants as e
use Rattle.psac_syntax.specs.declared.program.Expr.TheFolds as folds
use Rattle.psac_syntax.specs.Folds.{expr_fold}
use Rattle.psac_syntax.proofs.Folds.{expr_fold_out}
use Rattle.psac_model.specs.declared.ends.FaultKind.{FaultKind}
use Rattle.psac_model.specs.Names.{Env, bound}
use Rattle.psac_model.specs.Expression.{Setting, value_of, value_step, or_kind, of_op, in_order, cell_at, text_at}

module _ {N : Type 0} (w : Setting N) (env : Env N) where
  -- a layer and the values of its parts
  pub value_of_layer : (x : Expr) (y : Expr-F Expr) → out-Expr x ≡ y → value_of w env x ≡ value_step w env (folds.map-Expr Expr (Result (Value N) FaultKind) (value_of w env) y)
  unfolding value_of
  value_of_layer x y p =
      expr_fold_out (Result (Value N) FaultKind) (value_step w env) x
      ∙ ap (λ z. value_step w env (folds.map-Expr Expr (Result (Value N) FaultKind) (expr_fold (Result (Value N) FaultKind) (value_step w env)) z)) p

  pub value_of_nil : value_of w env e.Nil ≡ Ok nil
  value_of_nil = value_of_layer e.Nil Expr-F.Nil e.outs-Nil

  pub value_of_bool : (b : Bool) → value_of w env (e.Bool b) ≡ Ok (bool b)
  value_of_bool b = value_of_layer (e.Bool b) (Expr-F.Bool b) (e.outs-Bool b)

  pub value_of_int : (i : ℤ) → value_of w env (e.Int i) ≡ Ok (int i)
  value_of_int i = value_of_layer (e.Int i) (Expr-F.Int i) (e.outs-Int i)

  pub value_of_text : (k : ℕ) → value_of w env (e.Text k) ≡ text_at (slice_get w.texts k)
  value_of_text k = value_of_layer (e.Text k) (Expr-F.Text k) (e.outs-Text k)

  pub value_of_name : (x : ℕ) → value_of w env (e.Name x) ≡ or_kind (bound x env)
  value_of_name x = value_of_layer (e.Name x) (Expr-F.Name x) (e.outs-Name x)

  pub value_of_rows : value_of w env e.Rows ≡ Ok (int (pos w.opened))
  value_of_rows = value_of_layer e.Rows Expr-F.Rows e.outs-Rows

  pub value_of_cols : value_of w env e.Cols ≡ Ok (int (pos w.cols))
  value_of_cols = value_of_layer e.Cols Expr-F.Cols e.outs-Cols

  pub value_of_row_count : value_of w env e.RowCount ≡ Ok (ref w.row_count)
  value_of_row_count = value_of_layer e.RowCount Expr-F.RowCount e.outs-RowCount

  pub value_of_cell : (r c : Expr) → value_of w env (e.Cell r c) ≡ (value_of w env r >>= λ row. value_of w env c >>= λ col. cell_at w row col)
  value_of_cell r c = value_of_layer (e.Cell r c) (Expr-F.Cell r c) (e.outs-Cell r c)

  pub value_of_apply : (op : Op) (args : List Expr) → value_of w env (e.Apply op args) ≡ (in_order (map (value_of w env) args) >>= λ values. of_op (applied w.same op values))
  value_of_apply op args = value_of_layer (e.Apply op args) (Expr-F.Apply op args) (e.outs-Apply op args)
