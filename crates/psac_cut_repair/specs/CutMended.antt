-- A repair that was cut short, as a relation between the old record and the new one: it is `Mended` where want of memory or of slots breaks off the
-- new record. What wasn't reached has no new part. The walk of a repair builds it part by part with the steps of proofs/Based, and where its tables
-- were full the engine cites what psac_cut_repair's functions say of it.
use Rattle.std.specs.Prelude.{◌≡◌, ℕ, ◌+◌, true, List, ◌∷◌, ◌++◌, ◌⊎◌}
use Rattle.psac_syntax.specs.declared.program.Stmt.{Stmt, out-Stmt}
use Rattle.psac_syntax.specs.declared.program.Stmt.TheOpen.{Stmt-F}
use Rattle.psac_syntax.specs.declared.program.ReadItem.{ReadItem}
use Rattle.psac_syntax.specs.declared.program.Func.{Func}
use Rattle.psac_model.specs.declared.ends.End.{End}
use Rattle.psac_model.specs.declared.ends.End.TheVariants.{Done}
use Rattle.psac_model.specs.Names.{Env}
use Rattle.psac_model.specs.Expression.{Setting}
use Rattle.psac_model.specs.Tree.{Reads}
use Rattle.psac_model.specs.Run.{with_reads}
use Rattle.psac_traced.specs.Rec.{Rec, E, A, W, S, P, R, HeapOf, writes}
use Rattle.psac_traced.specs.Holds.{read_names, Sees}
use Rattle.psac_traced.specs.Mending.{unlike}
use Rattle.psac_traced.specs.Mended.{Mended}
use Rattle.psac_cut.specs.CutShort.{cut_short}

module _ {N : Type 0} (w : Setting N) (funcs : List Func) (Q : List Stmt → Type 0) where
  -- the record is a first part of one that a run of the block of this number may leave, with these reads
  abbrev pub CutAgain : (room number : ℕ) → Env N → Reads N → HeapOf N → Rec N → ℕ → Type 0
  CutAgain room number saved again other u n =
      (s : Stmt) (rest : List Stmt) (line : ℕ) (items : List ReadItem) (body : List Stmt) → out-Stmt s ≡ Stmt-F.Read line number items body → Q (s ∷ rest) → cut_short w funcs room body (with_reads saved items again) other u n

  -- over this heap the new record came of the old one, and so many modifiables were drawn that it doesn't have. A body is cut short in a part, or
  -- behind one that is done. The sides of a par are gone through at once, both over the heap before it, or the right one behind the left one
  abbrev pub CutMended : HeapOf N → Rec N → Rec N → ℕ → Type 0
  CutMended other old E n = n ≡ 0
  CutMended other (A m old) (A k new) n = (m ≡ k) × CutMended other old new n
  CutMended other (W m v old) (W k u new) n = (m ≡ k) × (v ≡ u) × CutMended ((k, u) ∷ other) old new n
  CutMended other (S t old) (S u new) n =
      (CutMended other t u n × (new ≡ E)) ⊎ (Mended w funcs Q other t u Done × CutMended (writes u ++ other) old new n)
  CutMended other (P l k) (P t u) n =
      ((a : ℕ) × (b : ℕ) × CutMended other l t a × CutMended other k u b × (a + b ≡ n)) ⊎ ((e : End) × Mended w funcs Q other l t e × CutMended (writes t ++ other) k u n)
  CutMended other (R room b saved reads t) (R level c kept again u) n =
      (room ≡ level) × (b ≡ c) × (saved ≡ kept) × (read_names reads ≡ read_names again) × Sees w.same other again × (((reads ≡ again) × CutMended other t u n) ⊎ ((unlike w.same reads again ≡ true) × CutAgain room b saved again other u n))
  CutMended other _ _ n = ⊥
