-- The statements that a run of a body may come to.
use Rattle.std.specs.Prelude.{◌≡◌, ℕ, List, ◌∷◌, Some}
use Rattle.psac_syntax.specs.declared.program.Expr.{Expr}
use Rattle.psac_syntax.specs.declared.program.Stmt.{Stmt, out-Stmt}
use Rattle.psac_syntax.specs.declared.program.Stmt.TheOpen.{Stmt-F}
use Rattle.psac_syntax.specs.declared.program.ReadItem.{ReadItem}
use Rattle.psac_syntax.specs.declared.program.Func.{Func}
use Rattle.psac_model.specs.Run.{func_named}

-- a body, what stands inside it or behind a part of it, and the bodies of functions
pub data IsCode (funcs : List Func) (whole : List Stmt) : List Stmt → Type 0 where
  itself : IsCode funcs whole whole
  behind : (s : Stmt) (rest : List Stmt) → IsCode funcs whole (s ∷ rest) → IsCode funcs whole rest
  block : (s : Stmt) (rest : List Stmt) (line number : ℕ) (items : List ReadItem) (body : List Stmt) → out-Stmt s ≡ Stmt-F.Read line number items body → IsCode funcs whole (s ∷ rest) → IsCode funcs whole body
  first : (s : Stmt) (rest : List Stmt) (line : ℕ) (e : Expr) (one other : List Stmt) → out-Stmt s ≡ Stmt-F.If line e one other → IsCode funcs whole (s ∷ rest) → IsCode funcs whole one
  second : (s : Stmt) (rest : List Stmt) (line : ℕ) (e : Expr) (one other : List Stmt) → out-Stmt s ≡ Stmt-F.If line e one other → IsCode funcs whole (s ∷ rest) → IsCode funcs whole other
  left : (s : Stmt) (rest : List Stmt) (line : ℕ) (one other : List Stmt) → out-Stmt s ≡ Stmt-F.Par line one other → IsCode funcs whole (s ∷ rest) → IsCode funcs whole one
  right : (s : Stmt) (rest : List Stmt) (line : ℕ) (one other : List Stmt) → out-Stmt s ≡ Stmt-F.Par line one other → IsCode funcs whole (s ∷ rest) → IsCode funcs whole other
  called : (f : ℕ) (g : Func) → func_named f funcs ≡ Some g → IsCode funcs whole g.body

-- a number is that of one block
abbrev pub IsNumbered : List Func → List Stmt → Type 0
IsNumbered funcs whole =
    (s t : Stmt) (rest more : List Stmt) (line row number : ℕ) (items others : List ReadItem) (body inside : List Stmt) → IsCode funcs whole (s ∷ rest) → IsCode funcs whole (t ∷ more) → out-Stmt s ≡ Stmt-F.Read line number items body → out-Stmt t ≡ Stmt-F.Read row number others inside → (items ≡ others) × (body ≡ inside)
