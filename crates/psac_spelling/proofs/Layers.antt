-- The text of each form of an expression, and of each statement.
use Rattle.std.specs.Prelude.{◌≡◌, ℕ, ℤ, Bool, List, ◌++◌, map, codes}
use Rattle.std.specs.Fmt.{signed_decimal}
use mathlib.Core.Path.{◌∙◌, ap}
use Rattle.psac_ops.specs.declared.op.Op.{Op}
use Rattle.psac_syntax.specs.declared.program.Expr.{Expr, out-Expr}
use Rattle.psac_syntax.specs.declared.program.Expr.TheOpen.{Expr-F}
use Rattle.psac_syntax.specs.declared.program.Expr.TheFolds as expr_folds
use Rattle.psac_syntax.specs.declared.program.Expr.TheVariants as e
use Rattle.psac_syntax.specs.declared.program.Stmt.{Stmt, out-Stmt}
use Rattle.psac_syntax.specs.declared.program.Stmt.TheOpen.{Stmt-F}
use Rattle.psac_syntax.specs.declared.program.Stmt.TheFolds as stmt_folds
use Rattle.psac_syntax.specs.declared.program.Stmt.TheVariants as s
use Rattle.psac_syntax.specs.declared.program.ReadItem.{ReadItem}
use Rattle.psac_syntax.specs.declared.program.Program.{Program}
use Rattle.psac_syntax.specs.Folds.{expr_fold}
use Rattle.psac_syntax.proofs.Folds.{expr_fold_out, stmt_fold_out}
use Rattle.psac_spelling.specs.Canonical.{bytes_at, name_text, quoted, truth, applied, Lines, joined, assigned, item_text, header_text, body_text, expr_step, expr_text, stmt_step, lines_step, stmt_text, content_text}

expr_layer : (p : Program) (x : Expr) (y : Expr-F Expr) → out-Expr x ≡ y → expr_text p x ≡ expr_step p (expr_folds.map-Expr Expr (List ℕ) (expr_text p) y)
unfolding expr_text
expr_layer p x y is =
    expr_fold_out (List ℕ) (expr_step p) x
    ∙ ap (λ z. expr_step p (expr_folds.map-Expr Expr (List ℕ) (expr_fold (List ℕ) (expr_step p)) z)) is

-- a statement stands behind its margin and before its line feed
pub stmt_is : (p : Program) (x : Stmt) (margin : List ℕ) → stmt_text p x margin ≡ margin ++ content_text p x margin ++ codes "\n"
unfolding stmt_text content_text
stmt_is p x margin = ap (λ (f : Lines). f margin) (stmt_fold_out Lines (lines_step p) x)

content_layer : (p : Program) (x : Stmt) (y : Stmt-F Stmt) (margin : List ℕ) → out-Stmt x ≡ y → content_text p x margin ≡ stmt_step p (stmt_folds.map-Stmt Stmt Lines (stmt_text p) y) margin
unfolding content_text
content_layer p x y margin is = ap (λ z. stmt_step p (stmt_folds.map-Stmt Stmt Lines (stmt_text p) z) margin) is

pub nil_text : (p : Program) → expr_text p e.Nil ≡ codes "nil"
nil_text p = expr_layer p e.Nil Expr-F.Nil e.outs-Nil

pub bool_text : (p : Program) (b : Bool) → expr_text p (e.Bool b) ≡ truth b
bool_text p b = expr_layer p (e.Bool b) (Expr-F.Bool b) (e.outs-Bool b)

pub int_text : (p : Program) (n : ℤ) → expr_text p (e.Int n) ≡ signed_decimal n
int_text p n = expr_layer p (e.Int n) (Expr-F.Int n) (e.outs-Int n)

pub text_text : (p : Program) (place : ℕ) → expr_text p (e.Text place) ≡ quoted (bytes_at p.texts place)
text_text p place = expr_layer p (e.Text place) (Expr-F.Text place) (e.outs-Text place)

pub name_is : (p : Program) (x : ℕ) → expr_text p (e.Name x) ≡ name_text p x
name_is p x = expr_layer p (e.Name x) (Expr-F.Name x) (e.outs-Name x)

pub rows_text : (p : Program) → expr_text p e.Rows ≡ codes "rows"
rows_text p = expr_layer p e.Rows Expr-F.Rows e.outs-Rows

pub cols_text : (p : Program) → expr_text p e.Cols ≡ codes "cols"
cols_text p = expr_layer p e.Cols Expr-F.Cols e.outs-Cols

pub row_count_text : (p : Program) → expr_text p e.RowCount ≡ codes "rows()"
row_count_text p = expr_layer p e.RowCount Expr-F.RowCount e.outs-RowCount

pub cell_text : (p : Program) (r c : Expr) → expr_text p (e.Cell r c) ≡ codes "cell(" ++ expr_text p r ++ codes ", " ++ expr_text p c ++ codes ")"
cell_text p r c = expr_layer p (e.Cell r c) (Expr-F.Cell r c) (e.outs-Cell r c)

pub apply_text : (p : Program) (op : Op) (args : List Expr) → expr_text p (e.Apply op args) ≡ applied op (map (expr_text p) args)
apply_text p op args = expr_layer p (e.Apply op args) (Expr-F.Apply op args) (e.outs-Apply op args)

pub let_text : (p : Program) (line x : ℕ) (v : Expr) (margin : List ℕ) → content_text p (s.Let line x v) margin ≡ codes "let " ++ assigned p x v
let_text p line x v margin = content_layer p (s.Let line x v) (Stmt-F.Let line x v) margin (s.outs-Let line x v)

pub new_text : (p : Program) (line x : ℕ) (margin : List ℕ) → content_text p (s.New line x) margin ≡ codes "new " ++ name_text p x ++ codes ";"
new_text p line x margin = content_layer p (s.New line x) (Stmt-F.New line x) margin (s.outs-New line x)

pub write_text : (p : Program) (line x : ℕ) (v : Expr) (margin : List ℕ) → content_text p (s.Write line x v) margin ≡ codes "write " ++ assigned p x v
write_text p line x v margin = content_layer p (s.Write line x v) (Stmt-F.Write line x v) margin (s.outs-Write line x v)

pub read_text : (p : Program) (line block : ℕ) (items : List ReadItem) (body : List Stmt) (margin : List ℕ) → content_text p (s.Read line block items body) margin ≡ codes "read " ++ joined (map (item_text p) items) ++ codes " " ++ body_text (map (stmt_text p) body) margin
read_text p line block items body margin = content_layer p (s.Read line block items body) (Stmt-F.Read line block items body) margin (s.outs-Read line block items body)

pub if_text : (p : Program) (line : ℕ) (v : Expr) (first second : List Stmt) (margin : List ℕ) → content_text p (s.If line v first second) margin ≡ codes "if " ++ expr_text p v ++ codes " " ++ body_text (map (stmt_text p) first) margin ++ codes " else " ++ body_text (map (stmt_text p) second) margin
if_text p line v first second margin = content_layer p (s.If line v first second) (Stmt-F.If line v first second) margin (s.outs-If line v first second)

pub par_text : (p : Program) (line : ℕ) (left right : List Stmt) (margin : List ℕ) → content_text p (s.Par line left right) margin ≡ codes "par " ++ body_text (map (stmt_text p) left) margin ++ codes " " ++ body_text (map (stmt_text p) right) margin
par_text p line left right margin = content_layer p (s.Par line left right) (Stmt-F.Par line left right) margin (s.outs-Par line left right)

pub call_text : (p : Program) (line f : ℕ) (values : List Expr) (dests : List ℕ) (margin : List ℕ) → content_text p (s.Call line f values dests) margin ≡ codes "call " ++ header_text p f (map (expr_text p) values) dests ++ codes ";"
call_text p line f values dests margin = content_layer p (s.Call line f values dests) (Stmt-F.Call line f values dests) margin (s.outs-Call line f values dests)
