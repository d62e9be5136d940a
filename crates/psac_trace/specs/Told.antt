-- What a call that runs statements needs and tells.
use Rattle.std.specs.Prelude.{◌≡◌, ℕ, Bool, true, false, List, Option, Some, None, Result, Ok, Err}
use Rattle.psac_ops.specs.declared.plain.Handle.{Handle}
use Rattle.psac_syntax.specs.declared.program.Stmt.{Stmt}
use Rattle.psac_syntax.specs.declared.program.Func.{Func}
use Rattle.psac_values.specs.declared.view.ValueView.{ValueView}
use Rattle.psac_model.specs.declared.ends.FaultKind.{FaultKind}
use Rattle.psac_model.specs.declared.ends.End.{End}
use Rattle.psac_model.specs.declared.ends.End.TheVariants.{Done, Stop}
use Rattle.psac_model.specs.Names.{Env}
use Rattle.psac_model.specs.Expression.{Setting}
use Rattle.psac_model.specs.Run.{func_named}
use Rattle.psac_laws.specs.Standing.{Standing, MeetsSeries, series}
use Rattle.psac_traced.specs.Rec.{Rec, writes}
use Rattle.psac_traced.specs.Traced.{Traces as Tracing}
use Rattle.psac_trace.specs.declared.halt.Halt.{Halt}
use Rattle.psac_trace.specs.declared.halt.Halt.TheVariants as halt
use Rattle.psac_plain.specs.declared.halt.Halt.{Halt as Stopped}
use Rattle.psac_plain.specs.declared.halt.Halt.TheVariants as stopped
use Rattle.psac_record.specs.declared.record.Record.{Record}
use Rattle.psac_record.specs.Kept.{Kept, E, bare}
use Rattle.psac_record.specs.Shown.{kept_of}
use Rattle.psac_ops.specs.Named.{same_handle}
use Rattle.psac_cut.specs.CutShort.{Cuts}
use Rattle.psac_cut.specs.Based.{CutOn}
use Rattle.psac_trace.specs.Grown.{Cause}
use Rattle.psac_trace.specs.Rights.{Heap, held, In, Within, Wider, Sees, Ready, Moved, Unchanged}

-- on each heap that has the base, the record is one that a run may leave; nothing of the base is written
pub record Traces (deep : Tracing Handle) (body : List Stmt) (env : Env Handle) (base : Heap) (r : Rec Handle) (end : End) : Type 0 where
  pub run : (heap : Heap) → Wider base heap → deep body env heap r end
  pub fresh : (m : Handle) → In (writes r) m → held base m ≡ None

-- how a call ended, with what was recorded, which is thrown away but after Good. After Other, for which slots or memory were
-- wanting, it is what was begun: the last node or link may lack its slot
pub data Ended (X : Type 0) : Type 0 where
  Good : (x : X) → Ended X
  Fault : (x : X) (kind : FaultKind) (line : ℕ) → Ended X
  Other : (x : X) (why : Option Cause) → Ended X

-- what a call tells in each case
abbrev pub Told : Tracing Handle → Cuts Handle → List Stmt → Standing → List ℕ → Env Handle → ValueView → ValueView → Heap → Ended (Rec Handle) → Type 0
Told deep first body st left env v w base (Good r) = Traces deep body env base r Done × Moved st left env v w base (writes r) × Unchanged st left env v w
Told deep first body st left env v w base (Fault r k n) = Traces deep body env base r (Stop k n) × Within base (Sees w) × Unchanged st left env v w
Told deep first body st left env v w base (Other r why) = CutOn same_handle first body env base r w.claims.over × Within base (Sees w)

-- where a pass is ready for statements that meet the series rule
abbrev pub Needs : Setting Handle → List Stmt → Env Handle → ValueView → Type 0
Needs w body env v = (base : Heap) × (st : Standing) × (end : Standing) × (series body st ≡ Some end) × Ready w st end.unwritten env v base

abbrev pub Tells : Setting Handle → Tracing Handle → Cuts Handle → List Stmt → Env Handle → ValueView → ValueView → Ended (Rec Handle) → Type 0
Tells w deep first body env v u e = (base : Heap) (st end : Standing) → series body st ≡ Some end → Ready w st end.unwritten env v base → Told deep first body st end.unwritten env v u base e

-- each function of the program meets the rule
abbrev pub AreChecked : List Func → Type 0
AreChecked funcs = (f : ℕ) (g : Func) → func_named f funcs ≡ Some g → MeetsSeries g

-- the record of a result, or what was recorded where it has none
abbrev pub did : Kept → Result Record Halt → Kept
did k (Ok r) = kept_of r
did k (Err h) = k

abbrev pub halted : Kept → Halt → Ended Kept
halted k (halt.Fault kind line) = Fault k kind line
halted k (halt.Full which at) = Other k (Some (record { which = which; index = at.index; room = at.room }))
halted k halt.NoMemory = Other k None

abbrev pub ended_of : Kept → Result Record Halt → Ended Kept
ended_of k (Ok r) = Good (kept_of r)
ended_of k (Err h) = halted k h

-- a statement that stopped at this line
abbrev pub stop_ended : Stopped → ℕ → Ended Kept
stop_ended (stopped.Fault k) n = Fault E k n
stop_ended stopped.NoMemory n = Other E None

abbrev pub what : {X : Type 0} → Ended X → X
what (Good x) = x
what (Fault x k n) = x
what (Other x why) = x

abbrev pub then_ended : {X Y : Type 0} → (X → Y) → Ended X → Ended Y
then_ended f (Good x) = Good (f x)
then_ended f (Fault x k n) = Fault (f x) k n
then_ended f (Other x why) = Other (f x) why

-- the same without nodes and links
abbrev pub bared : Ended Kept → Ended (Rec Handle)
bared = then_ended bare

-- want of memory or of slots
abbrev pub is_other : {X : Type 0} → Ended X → Bool
is_other (Other x why) = true
is_other e = false

-- want of memory goes before a full table, and the left side's before the right side's
abbrev pub first_why : {X : Type 0} → Option Cause → Ended X → Option Cause
first_why None e = None
first_why (Some c) (Other x None) = None
first_why (Some c) e = Some c

-- both sides of a par: want goes before a fault, and the left fault before the right one
abbrev pub both_ended : {X : Type 0} → (X → X → X) → Ended X → Ended X → Ended X
both_ended f (Good l) (Good r) = Good (f l r)
both_ended f (Good l) (Fault r k n) = Fault (f l r) k n
both_ended f (Good l) (Other r why) = Other (f l r) why
both_ended f (Fault l k n) (Good r) = Fault (f l r) k n
both_ended f (Fault l k n) (Fault r j m) = Fault (f l r) k n
both_ended f (Fault l k n) (Other r why) = Other (f l r) why
both_ended f (Other l why) e = Other (f l (what e)) (first_why why e)

-- what was expected, unless there was want of memory
abbrev pub Follows : {X : Type 0} → Ended X → Ended X → Type 0
Follows e (Good x) = e ≡ Good x
Follows e (Fault x k n) = e ≡ Fault x k n
Follows e (Other x (Some c)) = e ≡ Other x (Some c)
Follows e (Other x None) = what e ≡ x
