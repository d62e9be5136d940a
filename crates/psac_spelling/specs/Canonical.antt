-- The canonical text of a program.
use Rattle.std.specs.Prelude.{ℕ, Bool, ◌==◌, ◌||◌, if◌then◌else◌, List, [], ◌∷◌, ◌++◌, map, flat_map, slice_get, unwrap_or, codes}
use Rattle.std.specs.Fmt.{signed_decimal}
use Rattle.psac_ops.specs.declared.op.Op.{Op}
use Rattle.psac_ops.specs.Written.{name_of, is_infix}
use Rattle.psac_syntax.specs.declared.program.Expr.{Expr}
use Rattle.psac_syntax.specs.declared.program.Expr.TheOpen.{Expr-F}
use Rattle.psac_syntax.specs.declared.program.Stmt.{Stmt, out-Stmt}
use Rattle.psac_syntax.specs.declared.program.Stmt.TheOpen.{Stmt-F}
use Rattle.psac_syntax.specs.declared.program.Stmt.TheFolds as stmt_folds
use Rattle.psac_syntax.specs.declared.program.ReadItem.{ReadItem}
use Rattle.psac_syntax.specs.declared.program.Func.{Func}
use Rattle.psac_syntax.specs.declared.program.Program.{Program}
use Rattle.psac_syntax.specs.Folds.{expr_fold, stmt_fold}

-- the bytes at a place; none where there is no such place
abbrev pub bytes_at : List (List ℕ) → ℕ → List ℕ
bytes_at words place = unwrap_or (slice_get words place) []

abbrev pub name_text : Program → ℕ → List ℕ
name_text p name = bytes_at p.names name

-- a byte of a TEXT, with an escape only where one is needed
abbrev pub escaped : ℕ → List ℕ
escaped b = if b == 34 || b == 92 then 92 ∷ b ∷ [] else (if b == 10 then codes "\\n" else b ∷ [])

abbrev pub quoted : List ℕ → List ℕ
quoted bytes = codes "\"" ++ flat_map escaped bytes ++ codes "\""

-- one behind the other, the first behind this and each other behind a comma and a space
abbrev pub behind : List ℕ → List (List ℕ) → List ℕ
behind before [] = []
behind before (x ∷ xs) = before ++ x ++ behind (codes ", ") xs

-- joined by a comma and a space
abbrev pub joined : List (List ℕ) → List ℕ
joined = behind []

abbrev pub names_text : Program → List ℕ → List ℕ
names_text p names = joined (map (name_text p) names)

-- an operator as a function of its arguments
abbrev pub named : List ℕ → List (List ℕ) → List ℕ
named name args = name ++ codes "(" ++ joined args ++ codes ")"

-- an operator that stands between its two arguments, always in parentheses
abbrev pub between : List ℕ → List (List ℕ) → List ℕ
between name (left ∷ right ∷ []) = codes "(" ++ left ++ codes " " ++ name ++ codes " " ++ right ++ codes ")"
between name args = named name args

abbrev pub applied : Op → List (List ℕ) → List ℕ
applied op args = if is_infix op then between (name_of op) args else named (name_of op) args

abbrev pub truth : Bool → List ℕ
truth b = if b then codes "true" else codes "false"

-- an expression, from the texts of its parts
abbrev pub expr_step : Program → Expr-F (List ℕ) → List ℕ
expr_step p Expr-F.Nil = codes "nil"
expr_step p (Expr-F.Bool b) = truth b
expr_step p (Expr-F.Int n) = signed_decimal n
expr_step p (Expr-F.Text place) = quoted (bytes_at p.texts place)
expr_step p (Expr-F.Name name) = name_text p name
expr_step p Expr-F.Rows = codes "rows"
expr_step p Expr-F.Cols = codes "cols"
expr_step p Expr-F.RowCount = codes "rows()"
expr_step p (Expr-F.Cell row column) = codes "cell(" ++ row ++ codes ", " ++ column ++ codes ")"
expr_step p (Expr-F.Apply op args) = applied op args

unfoldable pub expr_text : Program → Expr → List ℕ
expr_text p e = expr_fold (List ℕ) (expr_step p) e

abbrev pub item_text : Program → ReadItem → List ℕ
item_text p item = expr_text p item.from ++ codes " as " ++ name_text p item.bound

-- destinations, behind the semicolon
abbrev pub dests_text : Program → List ℕ → List ℕ
dests_text p [] = []
dests_text p (d ∷ ds) = codes " " ++ names_text p (d ∷ ds)

-- a name, values and destinations, as headers and calls have them
abbrev pub header_text : Program → ℕ → List (List ℕ) → List ℕ → List ℕ
header_text p name values dests = name_text p name ++ codes "(" ++ joined values ++ codes ";" ++ dests_text p dests ++ codes ")"

abbrev pub assigned : Program → ℕ → Expr → List ℕ
assigned p name e = name_text p name ++ codes " = " ++ expr_text p e ++ codes ";"

-- lines behind a margin
abbrev pub Lines : Type 0
Lines = List ℕ → List ℕ

abbrev pub all_lines : List Lines → Lines
all_lines [] margin = []
all_lines (s ∷ ss) margin = s margin ++ all_lines ss margin

-- a body is two spaces further in, and its closing brace is not
abbrev pub body_text : List Lines → Lines
body_text ss margin = codes "{\n" ++ all_lines ss (margin ++ codes "  ") ++ margin ++ codes "}"

-- what stands in a statement's lines, without its margin and its line feed, from the lines of its bodies
abbrev pub stmt_step : Program → Stmt-F Lines → Lines
stmt_step p (Stmt-F.Let line name e) margin = codes "let " ++ assigned p name e
stmt_step p (Stmt-F.New line name) margin = codes "new " ++ name_text p name ++ codes ";"
stmt_step p (Stmt-F.Write line dest e) margin = codes "write " ++ assigned p dest e
stmt_step p (Stmt-F.Read line block items body) margin = codes "read " ++ joined (map (item_text p) items) ++ codes " " ++ body_text body margin
stmt_step p (Stmt-F.If line cond first second) margin = codes "if " ++ expr_text p cond ++ codes " " ++ body_text first margin ++ codes " else " ++ body_text second margin
stmt_step p (Stmt-F.Par line left right) margin = codes "par " ++ body_text left margin ++ codes " " ++ body_text right margin
stmt_step p (Stmt-F.Call line func values dests) margin = codes "call " ++ header_text p func (map (expr_text p) values) dests ++ codes ";"

abbrev pub lines_step : Program → Stmt-F Lines → Lines
lines_step p s margin = margin ++ stmt_step p s margin ++ codes "\n"

unfoldable pub stmt_text : Program → Stmt → Lines
stmt_text p s = stmt_fold Lines (lines_step p) s

unfoldable pub content_text : Program → Stmt → Lines
content_text p s = stmt_step p (stmt_folds.map-Stmt Stmt Lines (stmt_text p) (out-Stmt s))

abbrev pub func_text : Program → Func → List ℕ
func_text p f = codes "func " ++ header_text p f.name (map (name_text p) f.values) f.dests ++ codes " " ++ body_text (map (stmt_text p) f.body) [] ++ codes "\n"

-- one function after the other, without blank lines
abbrev pub canonical : Program → List ℕ
canonical p = flat_map (func_text p) p.funcs
