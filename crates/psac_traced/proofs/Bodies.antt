-- A number gives the block that is to be run again.
use Rattle.std.proofs.Common.{◌≡◌, ℕ, List, ◌∷◌, subst}
use Rattle.psac_syntax.specs.declared.program.Stmt.{Stmt, out-Stmt}
use Rattle.psac_syntax.specs.declared.program.Stmt.TheOpen.{Stmt-F}
use Rattle.psac_syntax.specs.declared.program.ReadItem.{ReadItem}
use Rattle.psac_syntax.specs.declared.program.Func.{Func}
use Rattle.psac_model.specs.declared.ends.End.{End}
use Rattle.psac_model.specs.Names.{Env}
use Rattle.psac_model.specs.Expression.{Setting}
use Rattle.psac_model.specs.Tree.{Reads}
use Rattle.psac_model.specs.Run.{with_reads}
use Rattle.psac_traced.specs.Rec.{Rec, HeapOf}
use Rattle.psac_traced.specs.Traced.{traced}
use Rattle.psac_traced.specs.Parts.{IsClosed}
use Rattle.psac_traced.specs.Mended.{Reran}
use Rattle.psac_traced.specs.Bodies.{IsCode, IsNumbered, behind, block, first, second, left, right, called}

module _ (funcs : List Func) (whole : List Stmt) where
  pub code_closed : IsClosed funcs (IsCode funcs whole)
  code_closed =
      record {
        tail = λ s rest c. behind s rest c;
        block = λ s rest line number items body e c. block s rest line number items body e c;
        first = λ s rest line x one other e c. first s rest line x one other e c;
        second = λ s rest line x one other e c. second s rest line x one other e c;
        left = λ s rest line one other e c. left s rest line one other e c;
        right = λ s rest line one other e c. right s rest line one other e c;
        called = λ f g e. called f g e;
      }

  -- what a run of a block may leave is what a run of the block of its number may leave
  pub reran_numbered : {N : Type 0} (w : Setting N) → IsNumbered funcs whole → (room number : ℕ) (saved : Env N) (again : Reads N) (other : HeapOf N) (u : Rec N) (end : End) (s : Stmt) (rest : List Stmt) (line : ℕ) (items : List ReadItem) (body : List Stmt) → out-Stmt s ≡ Stmt-F.Read line number items body → IsCode funcs whole (s ∷ rest) → traced w funcs room body (with_reads saved items again) other u end → Reran w funcs (IsCode funcs whole) room number saved again other u end
  reran_numbered w once room number saved again other u end s rest line items body is code t x more row others inside eq there =
      let same = once s x rest more line row number items others body inside code there is eq in
      subst (λ z. traced w funcs room z (with_reads saved others again) other u end) same.1
      (subst (λ z. traced w funcs room body (with_reads saved z again) other u end) same.0 t)
