-- What a repair leaves of values and of the record, and how many indexes it drew for that.
use Rattle.std.specs.Prelude.{◌≡◌, ℕ, ◌+◌, ◌≤◌, List, ◌++◌, None}
use Rattle.psac_ops.specs.declared.plain.Handle.{Handle}
use Rattle.psac_ops.specs.Value.{Value}
use Rattle.psac_syntax.specs.declared.program.Stmt.{Stmt}
use Rattle.psac_syntax.specs.declared.program.Func.{Func}
use Rattle.psac_values.specs.declared.view.ValueView.{ValueView}
use Rattle.psac_values.specs.Knowing.{Has}
use Rattle.psac_model.specs.declared.ends.CapKind.{CapKind}
use Rattle.psac_model.specs.declared.ends.End.{End}
use Rattle.psac_model.specs.declared.ends.End.TheVariants.{Done, Stop}
use Rattle.psac_model.specs.Names.{Env}
use Rattle.psac_model.specs.Expression.{Setting}
use Rattle.psac_laws.specs.Standing.{Standing}
use Rattle.psac_traced.specs.Rec.{Rec, S, writes}
use Rattle.psac_traced.specs.Places.{Makes}
use Rattle.psac_traced.specs.Mending.{mended}
use Rattle.psac_traced.specs.Mended.{Mended}
use Rattle.psac_ops.specs.Named.{same_handle}
use Rattle.psac_cut.specs.Within.{count_of}
use Rattle.psac_cut_repair.specs.Based.{CutMends}
use Rattle.psac_cut_repair.specs.Creates.{cut_drew}
use Rattle.psac_trace.specs.Rights.{Heap, held, In, Within, Wider, Sees, Target, Kept}
use Rattle.psac_repair.specs.Ended.{Ended, Good, Fault, Other, then_ended}
use Rattle.psac_trace.specs.Laws.{NewMade}
use Rattle.psac_repair.specs.Scope.{Fills}
use Rattle.psac_repair.specs.Stood.{Stood, Owned}

-- on each heap that has the base, the new record comes of the old one; nothing of the base is written
pub record Mends (w : Setting Handle) (funcs : List Func) (Q : List Stmt → Type 0) (base : Heap) (old new : Rec Handle) (end : End) : Type 0 where
  pub run : (other : Heap) → Wider base other → Mended w funcs Q other old new end
  pub fresh : (m : Handle) → In (writes new) m → held base m ≡ None

-- what the pass had keeps its words, but for destinations of the statements and for what the old record made
abbrev pub Still : Standing → List ℕ → Env Handle → Rec Handle → ValueView → ValueView → Type 0
Still st left env old v u =
    (m : Handle) (x : Value Handle) → Has v m → (Target st left env m → ⊥) → (Makes old m → ⊥) → Sees v m x → Sees u m x

-- from one view to another by these writes
pub record Renewed (st : Standing) (left : List ℕ) (env : Env Handle) (old : Rec Handle) (v u : ValueView) (base ws : Heap) : Type 0 where
  -- what was to be written is; nothing else that the pass had is, but for what the old record made
  pub fills : Fills (Has v) (Makes old) st left env base ws
  pub sees : Within (ws ++ base) (Sees u)
  -- what was written the pass has
  pub owned : (m : Handle) → In ws m → Has u m

module _ (w : Setting Handle) (funcs : List Func) (Q : List Stmt → Type 0) where
  -- so many indexes were drawn of each table as slots were needed
  abbrev pub Draws : Rec Handle → Rec Handle → (CapKind → ℕ) → Type 0
  Draws old new drawn = (c : CapKind) → drawn c ≡ count_of c (mended w.same old new).added

  -- what a repair that was cut short tells: the record as far as it came, and that no more was drawn than for it, with so many
  -- modifiables that were drawn in vain; the base has its words still
  abbrev pub ToldCut : Rec Handle → ValueView → ValueView → Heap → (CapKind → ℕ) → Type 0
  ToldCut old v u base drawn =
      (new : Rec Handle) × (n : ℕ) × CutMends same_handle w funcs Q base old new n × NewMade v u (mended w.same old new).created
      × ((c : CapKind) → drawn c ≤ count_of c (cut_drew w.same old new n)) × Within base (Sees u)

  -- what a repair tells in each case
  abbrev pub Told : Standing → List ℕ → Env Handle → Rec Handle → ValueView → ValueView → Heap → (CapKind → ℕ) → Ended → Type 0
  Told st left env old v u base drawn (Good new) =
      Mends w funcs Q base old new Done × Renewed st left env old v u base (writes new) × Still st left env old v u
      × NewMade v u (mended w.same old new).created × Draws old new drawn
  Told st left env old v u base drawn (Fault k n) =
      (new : Rec Handle) × Mends w funcs Q base old new (Stop k n) × Within base (Sees u) × Still st left env old v u
      × NewMade v u (mended w.same old new).created × Draws old new drawn
  Told st left env old v u base drawn (Other why) = ToldCut old v u base drawn

  -- there are statements that left the record
  abbrev pub Needs : Rec Handle → ValueView → Type 0
  Needs old v =
      (room : ℕ) × (body : List Stmt) × (env : Env Handle) × (heap : Heap) × (base : Heap) × (st : Standing) × (end : Standing) × Stood w funcs Q v old room body env heap base st end

  -- whatever statements left it, the new record comes of it
  abbrev pub Tells : Rec Handle → ValueView → ValueView → (CapKind → ℕ) → Ended → Type 0
  Tells old v u drawn e =
      (room : ℕ) (body : List Stmt) (env : Env Handle) (heap base : Heap) (st end : Standing)
      → Stood w funcs Q v old room body env heap base st end → Told st end.unwritten env old v u base drawn e

  -- where a part before the rest of a body is done, the rest stands somewhere, over what the part wrote and the base, and what that tells there the whole
  -- tells
  abbrev pub PartEnd : Rec Handle → Rec Handle → Standing → List ℕ → Env Handle → ValueView → ValueView → Heap → (CapKind → ℕ) → Ended
      → Type 0
  PartEnd part rest st left env v u base drawn (Good new) =
      (room : ℕ) × (body : List Stmt) × (here : Env Handle) × (heap : Heap) × (over : Heap) × (mid : Standing) × (end : Standing)
      × Stood w funcs Q u rest room body here heap over mid end
      × ((x : ValueView) (more all : CapKind → ℕ) (e : Ended) → Kept u x → ((c : CapKind) → all c ≡ drawn c + more c) → Told mid end.unwritten here rest u x over more e → Told st left env (S part rest) v x base all (then_ended (S new) e))
      × (over ≡ writes new ++ base) × Mends w funcs Q base part new Done × Owned u rest
  PartEnd part rest st left env v u base drawn (Fault k n) = Told st left env (S part rest) v u base drawn (Fault k n)
  PartEnd part rest st left env v u base drawn (Other why) = Told st left env (S part rest) v u base drawn (Other why)

  abbrev pub TellsPart : Rec Handle → Rec Handle → ValueView → ValueView → (CapKind → ℕ) → Ended → Type 0
  TellsPart part rest v u drawn e =
      (room : ℕ) (body : List Stmt) (env : Env Handle) (heap base : Heap) (st end : Standing)
      → Stood w funcs Q v (S part rest) room body env heap base st end → PartEnd part rest st end.unwritten env v u base drawn e
