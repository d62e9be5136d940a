-- What repair needs of a tracing run beside what that tells.
use Rattle.std.specs.Prelude.{◌≡◌, ◌≤◌, ℕ, List, Some}
use Rattle.psac_ops.specs.declared.plain.Handle.{Handle}
use Rattle.psac_ops.specs.Named.{same_handle}
use Rattle.psac_syntax.specs.declared.program.Stmt.{Stmt}
use Rattle.psac_values.specs.declared.view.ValueView.{ValueView}
use Rattle.psac_model.specs.declared.ends.CapKind.{CapKind}
use Rattle.psac_model.specs.declared.ends.End.TheVariants.{Done, Stop}
use Rattle.psac_model.specs.Names.{Env}
use Rattle.psac_model.specs.Expression.{Setting}
use Rattle.psac_model.specs.Tree.{size_of}
use Rattle.psac_laws.specs.Standing.{Standing, series}
use Rattle.psac_traced.specs.Rec.{Rec, writes, tree_of}
use Rattle.psac_traced.specs.Traced.{Traces as Tracing}
use Rattle.psac_traced.specs.Mending.{made_by}
use Rattle.psac_cut.specs.CutShort.{Cuts}
use Rattle.psac_cut.specs.Based.{CutOn}
use Rattle.psac_cut.specs.Within.{count_of, drew}
use Rattle.psac_trace.specs.Rights.{Heap, Within, Sees, Ready, Moved, Unchanged}
use Rattle.psac_trace.specs.Told.{Traces}
use Rattle.psac_trace.specs.Laws.{NewMade}
use Rattle.psac_repair.specs.Ended.{Ended, Good, Fault, Other}

-- so many indexes were drawn of each table as the record has slots
abbrev pub Draws : Rec Handle → (CapKind → ℕ) → Type 0
Draws r drawn = (c : CapKind) → drawn c ≡ count_of c (size_of (tree_of r))

abbrev pub ToldAll : Tracing Handle → Cuts Handle → List Stmt → Standing → List ℕ → Env Handle → ValueView → ValueView → Heap
    → (CapKind → ℕ) → Ended → Type 0
ToldAll deep first body st left env v u base drawn (Good r) =
    Traces deep body env base r Done × Moved st left env v u base (writes r) × Unchanged st left env v u × NewMade v u (made_by r)
    × Draws r drawn
ToldAll deep first body st left env v u base drawn (Fault k n) =
    (r : Rec Handle) × Traces deep body env base r (Stop k n) × Within base (Sees u) × Unchanged st left env v u × NewMade v u (made_by r)
    × Draws r drawn
ToldAll deep first body st left env v u base drawn (Other why) =
    (r : Rec Handle) × (n : ℕ) × CutOn same_handle first body env base r n × NewMade v u (made_by r)
    × ((c : CapKind) → drawn c ≤ count_of c (drew r n)) × Within base (Sees u)

abbrev pub TellsAll : Setting Handle → Tracing Handle → Cuts Handle → List Stmt → Env Handle → ValueView → ValueView → (CapKind → ℕ) → Ended
    → Type 0
TellsAll w deep first body env v u drawn e =
    (base : Heap) (st end : Standing) → series body st ≡ Some end → Ready w st end.unwritten env v base
    → ToldAll deep first body st end.unwritten env v u base drawn e
