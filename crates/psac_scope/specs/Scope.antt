-- How many names are in scope.
use Rattle.std.specs.Prelude.{◌≡◌, ℕ, ◌+◌, ◌≤◌, ◌<◌, ◌&&◌, nat_le, nat_lt, Bool, true, List, [], ◌∷◌, length, map, Some}
use Rattle.psac_ops.specs.Value.{Value}
use Rattle.psac_syntax.specs.declared.program.Stmt.{Stmt}
use Rattle.psac_syntax.specs.declared.program.Stmt.TheOpen.{Stmt-F}
use Rattle.psac_syntax.specs.declared.program.Func.{Func}
use Rattle.psac_syntax.specs.Folds.{stmt_fold}
use Rattle.psac_model.specs.Names.{Env, bind}
use Rattle.psac_model.specs.Run.{Action, Bind, Make, Put, Body, Block, Sides, func_named}

abbrev pub most_names : ℕ
most_names = 24

pub record Scoping : Type 0 where
  -- how many names a statement binds for the rest of its body
  pub binds : ℕ
  -- whether at most 24 are in scope in it and behind it, where so many are before it
  pub fits : ℕ → Bool

abbrev pub one_by_one : List Scoping → ℕ → Bool
one_by_one [] n = true
one_by_one (s ∷ ss) n = s.fits n && one_by_one ss (n + s.binds)

abbrev pub binds_one : Scoping
binds_one = record { binds = 1; fits = λ n. nat_lt n most_names }

abbrev pub binds_none : (ℕ → Bool) → Scoping
binds_none f = record { binds = 0; fits = f }

abbrev pub scoping_step : Stmt-F Scoping → Scoping
scoping_step (Stmt-F.Let line x e) = binds_one
scoping_step (Stmt-F.New line d) = binds_one
scoping_step (Stmt-F.Write line d e) = binds_none (λ n. true)
scoping_step (Stmt-F.Read line block items body) =
    binds_none (λ n. nat_le (n + length items) most_names && one_by_one body (n + length items))
scoping_step (Stmt-F.If line e first second) = binds_none (λ n. one_by_one first n && one_by_one second n)
scoping_step (Stmt-F.Par line left right) = binds_none (λ n. one_by_one left n && one_by_one right n)
scoping_step (Stmt-F.Call line f values dests) = binds_none (λ n. true)

unfoldable pub scoping_of : Stmt → Scoping
scoping_of s = stmt_fold Scoping scoping_step s

-- at most 24 names are in scope in a body and inside it, where at most so many are before it
pub record Fits (body : List Stmt) (n : ℕ) : Type 0 where
  pub count : ℕ
  pub some : n ≤ count
  pub most : count ≤ most_names
  pub inside : one_by_one (map scoping_of body) count ≡ true

-- the body of a function fits under its parameters
abbrev pub FuncFits : Func → Type 0
FuncFits f = Fits f.body (length f.values + length f.dests)

abbrev pub FuncsFit : List Func → Type 0
FuncsFit funcs = (f : ℕ) (g : Func) → func_named f funcs ≡ Some g → FuncFits g

-- what a statement asks for fits, and so does the rest of its body
abbrev pub ActFits : {N : Type 0} → List Stmt → Env N → Action N → Type 0
ActFits rest env (Bind x v) = (length env < most_names) × Fits rest (length (bind x v env))
ActFits {N} rest env (Make d) = (length env < most_names) × ((v : Value N) → Fits rest (length (bind d v env)))
ActFits rest env (Put m v) = Fits rest (length env)
ActFits rest env (Body body inner) = Fits body (length inner) × Fits rest (length env)
ActFits rest env (Block block reads body inner) = (length env + length reads ≤ most_names) × Fits body (length inner) × Fits rest (length env)
ActFits rest env (Sides left right) = Fits left (length env) × Fits right (length env) × Fits rest (length env)
