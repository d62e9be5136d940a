-- The series rule: each destination is written once, and before it is read.
use Rattle.std.specs.Prelude.{ℕ, Bool, not, ◌==◌, ◌&&◌, ◌||◌, if◌then◌else◌, List, [], ◌∷◌, ◌++◌, length, map, filter, drop, Option, Some, None, Result, Ok, Err}
use Rattle.std.specs.List.{list_any, list_all}
use Rattle.psac_ops.specs.Table.{◌>>=◌}
use Rattle.psac_syntax.specs.declared.program.Expr.{Expr, out-Expr}
use Rattle.psac_syntax.specs.Folds.{expr_fold, stmt_fold}
use Rattle.psac_syntax.specs.declared.program.Expr.TheOpen.{Expr-F}
use Rattle.psac_syntax.specs.declared.program.Stmt.{Stmt}
use Rattle.psac_syntax.specs.declared.program.Stmt.TheOpen.{Stmt-F}
use Rattle.psac_syntax.specs.declared.program.ReadItem.{ReadItem}
use Rattle.psac_syntax.specs.declared.program.Func.{Func}
use Rattle.psac_syntax.specs.declared.program.Program.{Program}
use Rattle.psac_model.specs.Run.{func_named}
use Rattle.psac_model.specs.Fresh.{main_of}

-- what is wrong with a program
pub data Breach : Type 0 where
  UnknownName : Breach
  Rebound : Breach
  ReadBeforeWrite : Breach
  WrittenTwice : Breach
  NotWritten : Breach
  BranchesDiffer : Breach
  WrittenInBothSides : Breach
  UnknownFunction : Breach
  Arity : Breach
  NoMain : Breach
  WrongSort : Breach

abbrev pub has : ℕ → List ℕ → Bool
has x xs = list_any (λ y. y == x) xs

abbrev pub all_in : List ℕ → List ℕ → Bool
all_in xs ys = list_all (λ x. has x ys) xs

abbrev pub without : List ℕ → List ℕ → List ℕ
without ys xs = filter (λ x. not (has x ys)) xs

-- a destination, with the line of what brought it in
abbrev pub Dest : Type 0
Dest = ℕ × ℕ

-- the names in scope, in the order in which they came
pub record Scope : Type 0 where
  pub values : List ℕ
  pub dests : List Dest

abbrev pub dest_names : Scope → List ℕ
dest_names s = map (λ d. d.0) s.dests

abbrev pub with_value : ℕ → Scope → Scope
with_value x s = record s { values = s.values ++ x ∷ [] }

abbrev pub with_dest : ℕ → ℕ → Scope → Scope
with_dest d line s = record s { dests = s.dests ++ (d, line) ∷ [] }

abbrev pub first_wrong : List (Option Breach) → Option Breach
first_wrong [] = None
first_wrong (Some b ∷ more) = Some b
first_wrong (None ∷ more) = first_wrong more

abbrev pub unless : Bool → Breach → Option Breach
unless b wrong = if b then None else Some wrong

-- a name that is bound must be new
abbrev pub new_wrong : Scope → ℕ → Option Breach
new_wrong s x = unless (not (has x s.values || has x (dest_names s))) Rebound

-- a name that is used must be a value, or a destination that is written
abbrev pub name_wrong : Scope → List ℕ → ℕ → Option Breach
name_wrong s w x =
    if has x s.values || has x w then None else if has x (dest_names s) then Some WrongSort else Some UnknownName

abbrev pub expr_step : Scope → List ℕ → Expr-F (Option Breach) → Option Breach
expr_step s w (Expr-F.Name x) = name_wrong s w x
expr_step s w (Expr-F.Cell r c) = first_wrong (r ∷ c ∷ [])
expr_step s w (Expr-F.Apply op args) = first_wrong args
expr_step s w _ = None

unfoldable pub expr_wrong : Scope → List ℕ → Expr → Option Breach
expr_wrong s w e = expr_fold (Option Breach) (expr_step s w) e

-- a destination that is written must be one, and not be written yet
abbrev pub dest_wrong : Scope → List ℕ → ℕ → Option Breach
dest_wrong s w d =
    if has d w then Some WrittenTwice else if has d (dest_names s) then None else if has d s.values then Some WrongSort else Some UnknownName

abbrev pub dests_wrong : Scope → List ℕ → List ℕ → Option Breach
dests_wrong s w [] = None
dests_wrong s w (d ∷ ds) = first_wrong (dest_wrong s w d ∷ dests_wrong s (w ++ d ∷ []) ds ∷ [])

-- a whole expression that is a destination must be written before it is read
abbrev pub from_wrong : Scope → List ℕ → Expr-F Expr → Expr → Option Breach
from_wrong s w (Expr-F.Name x) e =
    if has x (dest_names s) && not (has x w) then Some ReadBeforeWrite else expr_wrong s w e
from_wrong s w _ e = expr_wrong s w e

-- reads don't see the names that are bound beside them
abbrev pub items_wrong : Scope → List ℕ → Scope → List ReadItem → Option Breach
items_wrong s w inner [] = None
items_wrong s w inner (item ∷ items) =
    first_wrong (from_wrong s w (out-Expr item.from) item.from ∷ new_wrong inner item.bound ∷ items_wrong s w (with_value item.bound inner) items ∷ [])

abbrev pub with_items : List ReadItem → Scope → Scope
with_items [] s = s
with_items (item ∷ items) s = with_items items (with_value item.bound s)

abbrev pub call_wrong : Scope → List ℕ → Option Func → List Expr → List ℕ → Option Breach
call_wrong s w None values dests = Some UnknownFunction
call_wrong s w (Some f) values dests =
    first_wrong
    (map (expr_wrong s w) values
    ++ unless (length values == length f.values) Arity ∷ dests_wrong s w dests ∷ unless (length dests == length f.dests) Arity ∷ [])

-- what is wrong, with its line
abbrev pub Fault : Type 0
Fault = Breach × ℕ

abbrev pub so : {A : Type 0} → Option Breach → ℕ → Result A Fault → Result A Fault
so None line told = told
so (Some wrong) line told = Err (wrong, line)

-- the scope and the written set after statements that meet the rule, or else the first fault
abbrev pub Rule : Type 0
Rule = Scope → List ℕ → Result (Scope × List ℕ) Fault

abbrev pub one_by_one : List Rule → Rule
one_by_one [] s w = Ok (s, w)
one_by_one (r ∷ rs) s w = do
  after ← r s w
  one_by_one rs after.0 after.1

-- each of these is written
abbrev pub all_written : {A : Type 0} → List Dest → List ℕ → Result A Fault → Result A Fault
all_written [] w told = told
all_written (d ∷ ds) w told = so (unless (has d.0 w) NotWritten) d.1 (all_written ds w told)

-- the written set after a body, cut to the names outside; its own destinations are written at its end
abbrev pub body_rule : List Rule → Scope → List ℕ → Result (List ℕ) Fault
body_rule rs s w = do
  after ← one_by_one rs s w
  all_written (drop (length s.dests) after.0.dests) after.1 (Ok (filter (λ d. has d (dest_names s)) after.1))

abbrev pub rule_step : List Func → Stmt-F Rule → Rule
rule_step funcs (Stmt-F.Let line x e) s w =
    so (first_wrong (new_wrong s x ∷ expr_wrong s w e ∷ [])) line (Ok (with_value x s, w))
rule_step funcs (Stmt-F.New line d) s w = so (new_wrong s d) line (Ok (with_dest d line s, w))
rule_step funcs (Stmt-F.Write line d e) s w =
    so (first_wrong (dest_wrong s w d ∷ expr_wrong s w e ∷ [])) line (Ok (s, w ++ d ∷ []))
rule_step funcs (Stmt-F.Read line block items body) s w =
    so (items_wrong s w s items) line do
      after ← body_rule body (with_items items s) w
      Ok (s, after)
rule_step funcs (Stmt-F.If line e one other) s w =
    so (expr_wrong s w e) line do
      first ← body_rule one s w
      second ← body_rule other s w
      so (unless (all_in first second && all_in second first) BranchesDiffer) line (Ok (s, first))
rule_step funcs (Stmt-F.Par line left right) s w = do
  first ← body_rule left s w
  second ← body_rule right s w
  so (unless (all_in first (w ++ without second first)) WrittenInBothSides) line (Ok (s, first ++ without first second))
rule_step funcs (Stmt-F.Call line f values dests) s w =
    so (call_wrong s w (func_named f funcs) values dests) line (Ok (s, w ++ dests))

unfoldable pub rule_of : List Func → Stmt → Rule
rule_of funcs stmt = stmt_fold Rule (rule_step funcs) stmt

-- a header: a new function name and new parameters
abbrev pub params_wrong : List ℕ → Option Breach
params_wrong [] = None
params_wrong (x ∷ xs) = first_wrong (unless (not (has x xs)) Rebound ∷ params_wrong xs ∷ [])

abbrev pub headers : List ℕ → List Func → Result (Unit {0}) Fault
headers seen [] = Ok tt
headers seen (f ∷ fs) =
    so (first_wrong (unless (not (has f.name seen)) Rebound ∷ params_wrong (f.values ++ f.dests) ∷ [])) f.line (headers (f.name ∷ seen) fs)

abbrev pub main_meets : Option Func → Result (Unit {0}) Fault
main_meets None = Err (NoMain, 1)
main_meets (Some f) = so (unless (length f.values == 0) NoMain) f.line (Ok tt)

abbrev pub params : Func → Scope
params f = record { values = f.values; dests = map (λ d. (d, f.line)) f.dests }

-- a function's destinations are written at its end
abbrev pub func_meets : List Func → Func → Result (Unit {0}) Fault
func_meets funcs f = do
  after ← body_rule (map (rule_of funcs) f.body) (params f) []
  all_written (params f).dests after (Ok tt)

abbrev pub bodies : List Func → List Func → Result (Unit {0}) Fault
bodies funcs [] = Ok tt
bodies funcs (f ∷ fs) = do
  done ← func_meets funcs f
  bodies funcs fs

-- a program that meets the series rule, or its first fault: the headers, then main, then the bodies
unfoldable pub meets : Program → Result (Unit {0}) Fault
meets p = do
  named ← headers [] p.funcs
  begun ← main_meets (main_of p)
  bodies p.funcs p.funcs
