-- What a repair of a whole record tells, over the inputs that are present: in the terms in which the model's commit is spoken of.
use Rattle.std.specs.Prelude.{◌≡◌, ◌≢◌, ◌⊎◌, ℕ, ◌+◌, ◌≤◌, List, AllPairs, Contains}
use Rattle.psac_ops.specs.declared.plain.Handle.{Handle}
use Rattle.psac_syntax.specs.declared.program.Stmt.{Stmt}
use Rattle.psac_values.specs.declared.view.ValueView.{ValueView}
use Rattle.psac_model.specs.declared.ends.CapKind.{CapKind}
use Rattle.psac_model.specs.declared.ends.End.TheVariants.{Done, Stop}
use Rattle.psac_model.specs.Names.{Env}
use Rattle.psac_laws.specs.Standing.{Standing}
use Rattle.psac_traced.specs.Rec.{Rec}
use Rattle.psac_traced.specs.Places.{Makes}
use Rattle.psac_traced.specs.Bodies.{IsCode}
use Rattle.psac_traced.specs.Mending.{mended}
use Rattle.psac_traced.specs.Mended.{Mended}
use Rattle.psac_cut.specs.Within.{count_of}
use Rattle.psac_cut_repair.specs.CutMended.{CutMended}
use Rattle.psac_cut_repair.specs.Creates.{cut_drew}
use Rattle.psac_trace.specs.Rights.{Heap, In, Within, Sees}
use Rattle.psac_repair.specs.Ended.{Ended, Good, Fault, Other}
use Rattle.psac_repair.specs.Stood.{Stood, Owned}
use Rattle.psac_repair.specs.Laws.{Program, TellsOf}
use Rattle.psac_repair.specs.Going.{Views, claims_of, Roomy, Lasting}

module _ (g : Program) (old : Rec Handle) (base : Heap) where
  abbrev pub Code : List Stmt → Type 0
  Code = IsCode g.funcs g.main

  -- what was made is new, and was made once
  pub record MadeAnew (new : Rec Handle) : Type 0 where
    pub distinct : AllPairs (λ x y. x ≢ y) (mended g.setting.same old new).created
    pub anew : (m : Handle) → Contains (mended g.setting.same old new).created m → In base m ⊎ Makes old m → ⊥

  -- the new record comes of the old one, where memory and slots were wanting as far as the repair came; and so much was drawn
  abbrev pub TellsWhole : (CapKind → ℕ) → Ended → Type 0
  TellsWhole drawn (Good new) =
      Mended g.setting g.funcs Code base old new Done × MadeAnew new
      × ((c : CapKind) → drawn c ≡ count_of c (mended g.setting.same old new).added)
  TellsWhole drawn (Fault k n) =
      (new : Rec Handle) × Mended g.setting g.funcs Code base old new (Stop k n) × MadeAnew new
      × ((c : CapKind) → drawn c ≡ count_of c (mended g.setting.same old new).added)
  TellsWhole drawn (Other why) =
      (new : Rec Handle) × (n : ℕ) × CutMended g.setting g.funcs Code base old new n × MadeAnew new
      × ((c : CapKind) → drawn c ≤ count_of c (cut_drew g.setting.same old new n))

-- where the old record stands over the base
abbrev pub WholeIsTold : Type 0
WholeIsTold =
    (g : Program) (v u : ValueView) (old : Rec Handle) (drawn : CapKind → ℕ) (e : Ended) (room : ℕ) (body : List Stmt) (env : Env Handle) (heap base : Heap) (st end : Standing)
    → Stood g.setting g.funcs (IsCode g.funcs g.main) v old room body env heap base st end → Owned v old → TellsOf g old v u drawn e
    → TellsWhole g old base drawn e

-- and however the repair ended, the base has its words
abbrev pub BaseIsSeen : Type 0
BaseIsSeen =
    (g : Program) (v u : ValueView) (old : Rec Handle) (drawn : CapKind → ℕ) (e : Ended) (room : ℕ) (body : List Stmt) (env : Env Handle)
    (heap base : Heap) (st end : Standing) → Stood g.setting g.funcs (IsCode g.funcs g.main) v old room body env heap base st end
    → TellsOf g old v u drawn e → Within base (Sees u)

-- each index that was drawn gave a slot, or was past the list
abbrev pub DrawnIsGiven : Type 0
DrawnIsGiven = (p q : Views) (l : Lasting p q) → Roomy p → (c : CapKind) → l.drawn c ≡ l.drew c + (claims_of c q).over
