-- The value of an expression.
use Rattle.std.specs.Prelude.{ℕ, ℤ, pos, Bool, ◌&&◌, nat_lt, if◌then◌else◌, List, [], ◌∷◌, Option, Some, None, Result, Ok, Err, slice_get}
use Rattle.psac_ops.specs.declared.op.OpFault.{OpFault}
use Rattle.psac_ops.specs.declared.op.OpFault.TheVariants as op_fault
use Rattle.psac_ops.specs.declared.plain.TextId.{TextId}
use Rattle.psac_ops.specs.Value.{Value, nil, bool, int, text, ref}
use Rattle.psac_ops.specs.Table.{applied, as_int, ◌>>=◌}
use Rattle.psac_syntax.specs.declared.program.Expr.{Expr}
use Rattle.psac_syntax.specs.Folds.{expr_fold}
use Rattle.psac_syntax.specs.declared.program.Expr.TheOpen.{Expr-F}
use Rattle.psac_model.specs.declared.ends.FaultKind.{FaultKind}
use Rattle.psac_model.specs.declared.ends.FaultKind.TheVariants.{Kind, Overflow, DivZero, Range}
use Rattle.psac_model.specs.Names.{Env, bound}

abbrev pub or_kind : {A : Type 0} → Option A → Result A FaultKind
or_kind (Some x) = Ok x
or_kind None = Err Kind

abbrev pub fault_of : OpFault → FaultKind
fault_of op_fault.Kind = Kind
fault_of op_fault.Overflow = Overflow
fault_of op_fault.DivZero = DivZero

abbrev pub of_op : {A : Type 0} → Result A OpFault → Result A FaultKind
of_op (Ok x) = Ok x
of_op (Err e) = Err (fault_of e)

-- each value, unless one has a fault; the first fault decides
abbrev pub in_order : {A : Type 0} → List (Result A FaultKind) → Result (List A) FaultKind
in_order [] = Ok []
in_order (r ∷ rs) = do
  x ← r
  xs ← in_order rs
  Ok (x ∷ xs)

-- what the values of expressions depend on besides the environment
pub record Setting (N : Type 0) : Type 0 where
  -- the number of rows that the grid was opened with
  pub opened : ℕ
  pub room : ℕ
  pub cols : ℕ
  -- the texts of the program
  pub texts : List TextId
  -- the names of the input cells and of the number of rows
  pub cell : ℕ → ℕ → N
  pub row_count : N
  pub same : N → N → Bool

-- a reference to the input cell at two Ints, below the room
abbrev pub cell_in : {N : Type 0} → Setting N → ℤ → ℤ → Result (Value N) FaultKind
cell_in w (pos r) (pos c) = if nat_lt r w.room && nat_lt c w.cols then Ok (ref (w.cell r c)) else Err Range
cell_in w _ _ = Err Range

abbrev pub cell_at : {N : Type 0} → Setting N → Value N → Value N → Result (Value N) FaultKind
cell_at w v u = do
  r ← of_op (as_int v)
  c ← of_op (as_int u)
  cell_in w r c

abbrev pub text_at : {N : Type 0} → Option TextId → Result (Value N) FaultKind
text_at (Some t) = Ok (text t.id t.len)
text_at None = Err Kind

-- the value of an expression, given those of its parts
abbrev pub value_step : {N : Type 0} → Setting N → Env N → Expr-F (Result (Value N) FaultKind) → Result (Value N) FaultKind
value_step w env Expr-F.Nil = Ok nil
value_step w env (Expr-F.Bool b) = Ok (bool b)
value_step w env (Expr-F.Int i) = Ok (int i)
value_step w env (Expr-F.Text k) = text_at (slice_get w.texts k)
value_step w env (Expr-F.Name x) = or_kind (bound x env)
value_step w env Expr-F.Rows = Ok (int (pos w.opened))
value_step w env Expr-F.Cols = Ok (int (pos w.cols))
value_step w env Expr-F.RowCount = Ok (ref w.row_count)
value_step w env (Expr-F.Cell r c) = do
  row ← r
  col ← c
  cell_at w row col
value_step w env (Expr-F.Apply op args) = do
  values ← in_order args
  of_op (applied w.same op values)

unfoldable pub value_of : {N : Type 0} → Setting N → Env N → Expr → Result (Value N) FaultKind
value_of {N} w env e = expr_fold (Result (Value N) FaultKind) (value_step w env) e
