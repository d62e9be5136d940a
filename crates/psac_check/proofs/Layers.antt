-- What the series rule says of each form of an expression, and of each statement.
use Rattle.std.proofs.Common.{◌≡◌, ℕ, ℤ, Bool, List, [], ◌∷◌, map, Option, Some, None}
use Rattle.psac_ops.specs.declared.op.Op.{Op}
use Rattle.psac_syntax.specs.declared.program.Expr.{Expr}
use Rattle.psac_syntax.specs.declared.program.Expr.TheOpen.{Expr-F}
use Rattle.psac_syntax.specs.declared.program.Expr.TheVariants as e
use Rattle.psac_syntax.specs.declared.program.Stmt.{Stmt}
use Rattle.psac_syntax.specs.declared.program.Stmt.TheOpen.{Stmt-F}
use Rattle.psac_syntax.specs.declared.program.Stmt.TheVariants as s
use Rattle.psac_syntax.specs.declared.program.Func.{Func}
use Rattle.psac_syntax.specs.declared.program.ReadItem.{ReadItem}
use Rattle.psac_model.specs.Series.{Scope, Breach, Rule, name_wrong, first_wrong, expr_wrong, rule_step, rule_of}
use Rattle.psac_model.proofs.Ruled.{expr_wrong_layer, rule_of_layer}

module _ (scope : Scope) (w : List ℕ) where
  pub wrong_nil : expr_wrong scope w e.Nil ≡ None
  wrong_nil = expr_wrong_layer scope w e.Nil Expr-F.Nil e.outs-Nil

  pub wrong_bool : (b : Bool) → expr_wrong scope w (e.Bool b) ≡ None
  wrong_bool b = expr_wrong_layer scope w (e.Bool b) (Expr-F.Bool b) (e.outs-Bool b)

  pub wrong_int : (i : ℤ) → expr_wrong scope w (e.Int i) ≡ None
  wrong_int i = expr_wrong_layer scope w (e.Int i) (Expr-F.Int i) (e.outs-Int i)

  pub wrong_text : (k : ℕ) → expr_wrong scope w (e.Text k) ≡ None
  wrong_text k = expr_wrong_layer scope w (e.Text k) (Expr-F.Text k) (e.outs-Text k)

  pub wrong_name : (x : ℕ) → expr_wrong scope w (e.Name x) ≡ name_wrong scope w x
  wrong_name x = expr_wrong_layer scope w (e.Name x) (Expr-F.Name x) (e.outs-Name x)

  pub wrong_rows : expr_wrong scope w e.Rows ≡ None
  wrong_rows = expr_wrong_layer scope w e.Rows Expr-F.Rows e.outs-Rows

  pub wrong_cols : expr_wrong scope w e.Cols ≡ None
  wrong_cols = expr_wrong_layer scope w e.Cols Expr-F.Cols e.outs-Cols

  pub wrong_row_count : expr_wrong scope w e.RowCount ≡ None
  wrong_row_count = expr_wrong_layer scope w e.RowCount Expr-F.RowCount e.outs-RowCount

  pub wrong_cell : (r c : Expr) → expr_wrong scope w (e.Cell r c) ≡ first_wrong (expr_wrong scope w r ∷ expr_wrong scope w c ∷ [])
  wrong_cell r c = expr_wrong_layer scope w (e.Cell r c) (Expr-F.Cell r c) (e.outs-Cell r c)

  pub wrong_apply : (op : Op) (args : List Expr) → expr_wrong scope w (e.Apply op args) ≡ first_wrong (map (expr_wrong scope w) args)
  wrong_apply op args = expr_wrong_layer scope w (e.Apply op args) (Expr-F.Apply op args) (e.outs-Apply op args)

module _ (funcs : List Func) where
  pub rule_let : (line x : ℕ) (v : Expr) → rule_of funcs (s.Let line x v) ≡ rule_step [] (Stmt-F.Let line x v)
  rule_let line x v = rule_of_layer funcs (s.Let line x v) (Stmt-F.Let line x v) (s.outs-Let line x v)

  pub rule_new : (line x : ℕ) → rule_of funcs (s.New line x) ≡ rule_step [] (Stmt-F.New line x)
  rule_new line x = rule_of_layer funcs (s.New line x) (Stmt-F.New line x) (s.outs-New line x)

  pub rule_write : (line x : ℕ) (v : Expr) → rule_of funcs (s.Write line x v) ≡ rule_step [] (Stmt-F.Write line x v)
  rule_write line x v = rule_of_layer funcs (s.Write line x v) (Stmt-F.Write line x v) (s.outs-Write line x v)

  pub rule_read : (line block : ℕ) (items : List ReadItem) (body : List Stmt) → rule_of funcs (s.Read line block items body) ≡ rule_step funcs (Stmt-F.Read line 0 items (map (rule_of funcs) body))
  rule_read line block items body = rule_of_layer funcs (s.Read line block items body) (Stmt-F.Read line block items body) (s.outs-Read line block items body)

  pub rule_if : (line : ℕ) (v : Expr) (first second : List Stmt) → rule_of funcs (s.If line v first second) ≡ rule_step funcs (Stmt-F.If line v (map (rule_of funcs) first) (map (rule_of funcs) second))
  rule_if line v first second = rule_of_layer funcs (s.If line v first second) (Stmt-F.If line v first second) (s.outs-If line v first second)

  pub rule_par : (line : ℕ) (first second : List Stmt) → rule_of funcs (s.Par line first second) ≡ rule_step funcs (Stmt-F.Par line (map (rule_of funcs) first) (map (rule_of funcs) second))
  rule_par line first second = rule_of_layer funcs (s.Par line first second) (Stmt-F.Par line first second) (s.outs-Par line first second)

  pub rule_call : (line f : ℕ) (values : List Expr) (dests : List ℕ) → rule_of funcs (s.Call line f values dests) ≡ rule_step funcs (Stmt-F.Call line f values dests)
  rule_call line f values dests = rule_of_layer funcs (s.Call line f values dests) (Stmt-F.Call line f values dests) (s.outs-Call line f values dests)
