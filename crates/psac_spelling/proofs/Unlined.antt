-- Each statement without its lines.
use Rattle.std.proofs.Common.{◌≡◌, ℕ, List, map, ap, ◌∙◌}
use Rattle.psac_syntax.specs.declared.program.Expr.{Expr}
use Rattle.psac_syntax.specs.declared.program.ReadItem.{ReadItem}
use Rattle.psac_syntax.specs.declared.program.Stmt.{Stmt, out-Stmt}
use Rattle.psac_syntax.specs.declared.program.Stmt.TheOpen.{Stmt-F}
use Rattle.psac_syntax.specs.declared.program.Stmt.TheFolds as stmt_folds
use Rattle.psac_syntax.specs.declared.program.Stmt.TheVariants as s
use Rattle.psac_syntax.specs.Folds.{stmt_fold}
use Rattle.psac_syntax.proofs.Folds.{stmt_fold_out}
use Rattle.psac_spelling.specs.Unlined.{unlined_step, unlined}

layer : (x : Stmt) (y : Stmt-F Stmt) → out-Stmt x ≡ y → unlined x ≡ unlined_step (stmt_folds.map-Stmt Stmt Stmt unlined y)
unfolding unlined
layer x y is = stmt_fold_out Stmt unlined_step x ∙ ap (λ z. unlined_step (stmt_folds.map-Stmt Stmt Stmt (stmt_fold Stmt unlined_step) z)) is

pub unlined_let : (line x : ℕ) (v : Expr) → unlined (s.Let line x v) ≡ s.Let 0 x v
unlined_let line x v = layer (s.Let line x v) (Stmt-F.Let line x v) (s.outs-Let line x v)

pub unlined_new : (line x : ℕ) → unlined (s.New line x) ≡ s.New 0 x
unlined_new line x = layer (s.New line x) (Stmt-F.New line x) (s.outs-New line x)

pub unlined_write : (line x : ℕ) (v : Expr) → unlined (s.Write line x v) ≡ s.Write 0 x v
unlined_write line x v = layer (s.Write line x v) (Stmt-F.Write line x v) (s.outs-Write line x v)

pub unlined_read : (line block : ℕ) (items : List ReadItem) (body : List Stmt) → unlined (s.Read line block items body) ≡ s.Read 0 block items (map unlined body)
unlined_read line block items body = layer (s.Read line block items body) (Stmt-F.Read line block items body) (s.outs-Read line block items body)

pub unlined_if : (line : ℕ) (v : Expr) (first second : List Stmt) → unlined (s.If line v first second) ≡ s.If 0 v (map unlined first) (map unlined second)
unlined_if line v first second = layer (s.If line v first second) (Stmt-F.If line v first second) (s.outs-If line v first second)

pub unlined_par : (line : ℕ) (left right : List Stmt) → unlined (s.Par line left right) ≡ s.Par 0 (map unlined left) (map unlined right)
unlined_par line left right = layer (s.Par line left right) (Stmt-F.Par line left right) (s.outs-Par line left right)

pub unlined_call : (line f : ℕ) (values : List Expr) (dests : List ℕ) → unlined (s.Call line f values dests) ≡ s.Call 0 f values dests
unlined_call line f values dests = layer (s.Call line f values dests) (Stmt-F.Call line f values dests) (s.outs-Call line f values dests)
