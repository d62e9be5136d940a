-- The series rule of a whole program, without the order in which it is checked.
use Rattle.std.specs.Prelude.{◌≡◌, ℕ, Bool, true, false, ◌==◌, ◌&&◌, List, [], length, map, Option, Some, None}
use Rattle.psac_syntax.specs.declared.program.Stmt.{Stmt}
use Rattle.psac_syntax.specs.declared.program.Stmt.TheOpen.{Stmt-F}
use Rattle.psac_syntax.specs.declared.program.Func.{Func}
use Rattle.psac_syntax.specs.declared.program.Program.{Program}
use Rattle.psac_syntax.specs.Folds.{stmt_fold}
use Rattle.psac_model.specs.Run.{func_named}
use Rattle.psac_model.specs.Fresh.{main_of}
use Rattle.psac_laws.specs.Places.{IsIn}
use Rattle.psac_laws.specs.Standing.{every, distinct, MeetsSeries}

-- a function that is there, with so many values and destinations
abbrev pub takes : Option Func → ℕ → ℕ → Bool
takes None values dests = false
takes (Some f) values dests = (values == length f.values) && (dests == length f.dests)

-- each call in a statement is of a function of the program, with as many values and destinations as it has
abbrev pub calls_step : List Func → Stmt-F Bool → Bool
calls_step funcs (Stmt-F.Read line block items body) = every body
calls_step funcs (Stmt-F.If line e first second) = every first && every second
calls_step funcs (Stmt-F.Par line left right) = every left && every right
calls_step funcs (Stmt-F.Call line f values dests) = takes (func_named f funcs) (length values) (length dests)
calls_step funcs _ = true

unfoldable pub calls_fit : List Func → Stmt → Bool
calls_fit funcs s = stmt_fold Bool (calls_step funcs) s

-- a function meets the rule of its body, and its calls fit
pub record IsFunc (funcs : List Func) (f : Func) : Type 0 where
  pub meets : MeetsSeries f
  pub calls : every (map (calls_fit funcs) f.body) ≡ true

-- functions have distinct names; there is a main, which takes no values; and each function is one
pub record MeetsRule (p : Program) : Type 0 where
  pub names : distinct (map (λ f. f.name) p.funcs) ≡ true
  pub main : Func
  pub found : main_of p ≡ Some main
  pub bare : main.values ≡ []
  pub each : (f : Func) → IsIn f p.funcs → IsFunc p.funcs f
