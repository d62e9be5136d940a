-- A repair that was cut short, over each heap that has a base.
use Rattle.std.specs.Prelude.{ℕ, Bool, List}
use Rattle.psac_syntax.specs.declared.program.Stmt.{Stmt}
use Rattle.psac_syntax.specs.declared.program.Func.{Func}
use Rattle.psac_model.specs.declared.ends.End.{End}
use Rattle.psac_model.specs.Expression.{Setting}
use Rattle.psac_traced.specs.Rec.{Rec, HeapOf}
use Rattle.psac_traced.specs.Mended.{Mended}
use Rattle.psac_cut.specs.Based.{Wider}
use Rattle.psac_cut_repair.specs.CutMended.{CutMended}

module _ {N : Type 0} (same : N → N → Bool) (w : Setting N) (funcs : List Func) (Q : List Stmt → Type 0) where
  -- on each of them the new record comes of the old one
  abbrev pub Comes : HeapOf N → Rec N → Rec N → End → Type 0
  Comes base old new end = (other : HeapOf N) → Wider same base other → Mended w funcs Q other old new end

  -- on each of them it does so as far as the repair came, and so many modifiables were drawn in vain
  pub record CutMends (base : HeapOf N) (old new : Rec N) (n : ℕ) : Type 0 where
    pub run : (other : HeapOf N) → Wider same base other → CutMended w funcs Q other old new n
