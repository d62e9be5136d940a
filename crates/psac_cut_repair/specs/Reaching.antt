-- Which modifiables a record reads: those that the heap had where it began, and those that it wrote itself.
use Rattle.std.specs.Prelude.{◌≡◌, ℕ, ◌⊎◌, Bool, List, Some}
use Rattle.psac_ops.specs.Value.{Value}
use Rattle.psac_syntax.specs.declared.program.Stmt.{Stmt}
use Rattle.psac_syntax.specs.declared.program.Func.{Func}
use Rattle.psac_model.specs.declared.ends.End.{End}
use Rattle.psac_model.specs.declared.ends.End.TheVariants.{Done}
use Rattle.psac_model.specs.Names.{Env}
use Rattle.psac_model.specs.Expression.{Setting}
use Rattle.psac_traced.specs.Rec.{Rec, HeapOf, held_by, writes}
use Rattle.psac_traced.specs.Traced.{traced}
use Rattle.psac_traced.specs.Holds.{EachRead}
use Rattle.psac_traced.specs.Bodies.{IsCode}
use Rattle.psac_traced.specs.Mended.{Mended}

module _ {N : Type 0} (same : N → N → Bool) where
  -- the heap has the modifiable
  abbrev pub In : HeapOf N → N → Type 0
  In heap m = (x : Value N) × (held_by same heap m ≡ Some x)

  -- each modifiable that the record read it wrote, or the base has it
  abbrev pub ReadsIn : HeapOf N → Rec N → Type 0
  ReadsIn base r = EachRead (λ m v. In (writes r) m ⊎ In base m) r

-- so it is of a record that a run from the base left, also where the run stopped
abbrev pub RunReadsIn : Type 0 → Type 0
RunReadsIn N =
    (w : Setting N) (funcs : List Func) (room : ℕ) (body : List Stmt) (env : Env N) (base : HeapOf N) (r : Rec N) (end : End) → traced w funcs room body env base r end → ReadsIn w.same base r

-- and of one that came of an old record over the base
abbrev pub RepairReadsIn : Type 0 → Type 0
RepairReadsIn N =
    (w : Setting N) (funcs : List Func) (main : List Stmt) (room : ℕ) (body : List Stmt) (env : Env N) (heap base : HeapOf N) (old new : Rec N) (end : End) → IsCode funcs main body → traced w funcs room body env heap old Done → Mended w funcs (IsCode funcs main) base old new end → ReadsIn w.same base new
