-- What follows from what a run tells, and what adds up along its parts.
use Rattle.std.specs.Prelude.{◌≡◌, ◌≢◌, ℕ, ◌≤◌, Bool, List, ◌++◌, Option, Some, Contains, AllPairs, sum_by}
use Rattle.psac_ops.specs.declared.plain.Handle.{Handle}
use Rattle.psac_ops.specs.declared.plain.Plain.{Plain}
use Rattle.psac_syntax.specs.declared.program.Stmt.{Stmt}
use Rattle.psac_syntax.specs.declared.program.Func.{Func}
use Rattle.psac_slots.specs.Handles.{Member}
use Rattle.psac_values.specs.declared.view.ValueView.{ValueView}
use Rattle.psac_values.specs.Steps.{Lacks}
use Rattle.psac_values.specs.Steps as values
use Rattle.psac_values.specs.Knowing.{Has, United}
use Rattle.psac_readers.specs.declared.view.ReadersView.{ReadersView}
use Rattle.psac_readers.specs.Chained.{named}
use Rattle.psac_fork.specs.declared.tables.Pass.{Pass}
use Rattle.psac_fork.specs.declared.tables.Tables.{Tables}
use Rattle.psac_model.specs.declared.ends.End.TheVariants.{Done, Stop}
use Rattle.psac_model.specs.Names.{Env}
use Rattle.psac_model.specs.Expression.{Setting}
use Rattle.psac_laws.specs.Standing.{Standing, series}
use Rattle.psac_traced.specs.Rec.{writes}
use Rattle.psac_traced.specs.Traced.{Traces as Tracing, traced}
use Rattle.psac_cut.specs.CutShort.{cut_short}
use Rattle.psac_record.specs.Kept.{Kept, Stands, bare, made_of}
use Rattle.psac_trace.specs.Rights.{Heap, Within, Sees, Tidy, Ready, Moved, Unchanged, Kept as Stays}
use Rattle.psac_trace.specs.Grown.{Made, followed, Moves, MoreLinks, as_link}
use Rattle.psac_trace.specs.Told.{Traces, Ended, Good, Fault, Other}
use Rattle.psac_trace.specs.Raising.{Rewrote}
use Rattle.psac_trace.specs.Running.{Leaves}

-- these were made: no two are the same, the pass lacked them before and has them now
pub record NewMade (v u : ValueView) (ms : List Handle) : Type 0 where
  pub distinct : AllPairs (λ x y. x ≢ y) ms
  pub lacked : (m : Handle) → Contains ms m → Lacks v m.slot
  pub has : (m : Handle) → Contains ms m → Has u m

-- what a run tells of values, and of what it made: also where it stopped at a fault. Where slots or memory were wanting, no more
-- is told of values than that the base is still known
abbrev pub AllTold : Tracing Handle → List Stmt → Standing → List ℕ → Env Handle → ValueView → ValueView → Heap → Ended Kept → Type 0
AllTold deep body st left env v u base (Good k) = Traces deep body env base (bare k) Done × Moved st left env v u base (writes (bare k)) × Unchanged st left env v u × NewMade v u (made_of k)
AllTold deep body st left env v u base (Fault k i n) = Traces deep body env base (bare k) (Stop i n) × Within base (Sees u) × Unchanged st left env v u × NewMade v u (made_of k)
AllTold deep body st left env v u base (Other k why) = Within base (Sees u) × NewMade v u (made_of k)

abbrev pub RunsTellAll : Type 0
RunsTellAll =
    (w : Setting Handle) (funcs : List Func) (room : ℕ) (olds : List Handle) (t : Tables) (body : List Stmt) (env : Env Handle) (par : Option Handle) (p q : Pass) (e : Ended Kept)
    → Leaves w (traced w funcs room) (cut_short w funcs room) olds t body env par p q e → (base : Heap) (st end : Standing) → series body st ≡ Some end → Ready w st end.unwritten env p.values.knows base → AllTold (traced w funcs room) body st end.unwritten env p.values.knows q.values.knows base e

-- one part after another
abbrev pub MovesAddUp : Type 0
MovesAddUp = (t : Tables) (p u q : Pass) (a b : Made) → Moves t p u a → Moves t u q b → Moves t p q (followed a b)

abbrev pub WordsAddUp : Type 0
WordsAddUp = (v u x : ValueView) (a b : List (Handle × Plain)) → Stays v u → Stays u x → Rewrote v u a → Rewrote u x b → Rewrote v x (a ++ b)

-- and both sides of a fork
abbrev pub SidesAddUp : Type 0
SidesAddUp =
    (shared to_right : ℕ → Bool) (v l r j : ValueView) (a b : List (Handle × Plain)) → Tidy v → Stays (values.left_of shared to_right v) l → Stays (values.right_of shared to_right v) r → j ≡ values.joined l r → United l r j
    → Rewrote (values.left_of shared to_right v) l a → Rewrote (values.right_of shared to_right v) r b → Rewrote v j (a ++ b)

-- a link that was entered stands once among these, and the pass didn't have it before; so a pass that has no link twice has none
-- twice afterwards
pub record OnceEach (v u : ReadersView) (entered : List Stands) : Type 0 where
  pub distinct : (l : ℕ) → sum_by (λ (s : Stands). named l (as_link s)) entered ≤ 1
  pub lacked : (s : Stands) → Member s entered → sum_by (named s.link.index) v.links ≡ 0
  pub stays : ((l : ℕ) → sum_by (named l) v.links ≤ 1) → (l : ℕ) → sum_by (named l) u.links ≤ 1

abbrev pub LinksStandOnce : Type 0
LinksStandOnce = (v u : ReadersView) (entered : List Stands) → MoreLinks v u entered → OnceEach v u entered
