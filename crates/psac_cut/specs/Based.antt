-- A run that was cut short, over each heap that has a base.
use Rattle.std.specs.Prelude.{◌≡◌, ℕ, Bool, List, Some}
use Rattle.psac_ops.specs.Value.{Value}
use Rattle.psac_syntax.specs.declared.program.Stmt.{Stmt}
use Rattle.psac_model.specs.Names.{Env}
use Rattle.psac_traced.specs.Rec.{Rec, HeapOf, held_by}
use Rattle.psac_cut.specs.CutShort.{Cuts}

module _ {N : Type 0} (same : N → N → Bool) where
  -- the heap has what the base has
  abbrev pub Wider : HeapOf N → HeapOf N → Type 0
  Wider base heap = (m : N) (x : Value N) → held_by same base m ≡ Some x → held_by same heap m ≡ Some x

  -- on each of them the record is a first part, and so many modifiables were drawn in vain
  pub record CutOn (first : Cuts N) (body : List Stmt) (env : Env N) (base : HeapOf N) (r : Rec N) (n : ℕ) : Type 0 where
    pub run : (heap : HeapOf N) → Wider base heap → first body env heap r n
