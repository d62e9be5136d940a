-- How a new record comes of an old one over another heap: a block whose reads are unlike is run again, and all else is gone through.
use Rattle.std.specs.Prelude.{◌≡◌, ℕ, true, List, ◌∷◌, ◌++◌, ◌⊎◌}
use Rattle.psac_syntax.specs.declared.program.Stmt.{Stmt, out-Stmt}
use Rattle.psac_syntax.specs.declared.program.Stmt.TheOpen.{Stmt-F}
use Rattle.psac_syntax.specs.declared.program.ReadItem.{ReadItem}
use Rattle.psac_syntax.specs.declared.program.Func.{Func}
use Rattle.psac_model.specs.declared.ends.End.{End}
use Rattle.psac_model.specs.declared.ends.End.TheVariants.{Done, Stop}
use Rattle.psac_model.specs.Names.{Env}
use Rattle.psac_model.specs.Expression.{Setting}
use Rattle.psac_model.specs.Tree.{Reads}
use Rattle.psac_model.specs.Run.{with_reads, first_stop}
use Rattle.psac_traced.specs.Rec.{Rec, E, A, W, S, P, R, HeapOf, writes}
use Rattle.psac_traced.specs.Traced.{traced}
use Rattle.psac_traced.specs.Holds.{read_names, Sees}
use Rattle.psac_traced.specs.Mending.{unlike}

-- the rest behind a part that ended so
abbrev pub Behind : {N : Type 0} → End → Type 0 → Rec N → End → Type 0
Behind Done more new end = more
Behind (Stop k line) more new end = (new ≡ E) × (end ≡ Stop k line)

module _ {N : Type 0} (w : Setting N) (funcs : List Func) (Q : List Stmt → Type 0) where
  -- the record is one that a run of the block of this number may leave, with these reads
  abbrev pub Reran : (room number : ℕ) → Env N → Reads N → HeapOf N → Rec N → End → Type 0
  Reran room number saved again other u end =
      (s : Stmt) (rest : List Stmt) (line : ℕ) (items : List ReadItem) (body : List Stmt) → out-Stmt s ≡ Stmt-F.Read line number items body → Q (s ∷ rest) → traced w funcs room body (with_reads saved items again) other u end

  abbrev pub Mended : HeapOf N → Rec N → Rec N → End → Type 0
  Mended other E E end = end ≡ Done
  Mended other (A m old) (A n new) end = (m ≡ n) × Mended other old new end
  Mended other (W m v old) (W n u new) end = (m ≡ n) × (v ≡ u) × Mended ((n, u) ∷ other) old new end
  Mended other (S t old) (S u new) end =
      (e : End) × Mended other t u e × Behind e (Mended (writes u ++ other) old new end) new end
  Mended other (P l k) (P t u) end =
      (e : End) × (f : End) × Mended other l t e × Mended (writes t ++ other) k u f × (first_stop e f ≡ end)
  Mended other (R room b saved reads t) (R level c kept again u) end =
      (room ≡ level) × (b ≡ c) × (saved ≡ kept) × (read_names reads ≡ read_names again) × Sees w.same other again × (((reads ≡ again) × Mended other t u end) ⊎ ((unlike w.same reads again ≡ true) × Reran room b saved again other u end))
  Mended other _ _ end = ⊥
