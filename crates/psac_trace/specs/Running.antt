-- What the calls of the tracing run need and leave.
use Rattle.std.specs.Prelude.{◌≡◌, ℕ, ◌+◌, ◌≤◌, List, [], ◌∷◌, ◌++◌, map, true, Option, Some, None, IfSome}
use Rattle.psac_ops.specs.declared.plain.Handle.{Handle}
use Rattle.psac_ops.specs.Value.{ref}
use Rattle.psac_syntax.specs.declared.program.Stmt.{Stmt}
use Rattle.psac_syntax.specs.declared.program.Func.{Func}
use Rattle.psac_values.specs.declared.view.ValueView.{ValueView}
use Rattle.psac_fork.specs.declared.tables.Pass.{Pass}
use Rattle.psac_fork.specs.declared.tables.Tables.{Tables}
use Rattle.psac_fork.specs.Whole.{IsOf, HasRoom}
use Rattle.psac_model.specs.declared.ends.CapKind.TheVariants as cap
use Rattle.psac_model.specs.declared.ends.End.{End}
use Rattle.psac_model.specs.declared.ends.End.TheVariants.{Done, Stop}
use Rattle.psac_model.specs.Names.{Env, bound}
use Rattle.psac_model.specs.Tree.{Reads}
use Rattle.psac_model.specs.Expression.{Setting}
use Rattle.psac_model.specs.Run.{Action, Bind, Make, Put, Body, Block, Sides, first_stop}
use Rattle.psac_model.specs.Series.{has, all_in, without}
use Rattle.psac_laws.specs.Standing.{Standing, is_new, with_value, with_dest, settled, in_both, series, left_by, series_of}
use Rattle.psac_traced.specs.Rec as rec
use Rattle.psac_traced.specs.Rec.{Rec, writes}
use Rattle.psac_traced.specs.Traced.{Traces as Tracing, acts}
use Rattle.psac_traced.specs.Holds.{EachOf}
use Rattle.psac_ops.specs.Named.{same_handle}
use Rattle.psac_cut.specs.CutShort.{Cuts, cuts}
use Rattle.psac_cut.specs.Based.{CutOn}
use Rattle.psac_record.specs.declared.parts.Reading.{Reading}
use Rattle.psac_record.specs.Kept.{Kept, E, S, R, Stands, reads_of, env_of}
use Rattle.psac_trace.specs.declared.halt.Halt.{Halt}
use Rattle.psac_trace.specs.declared.halt.Halt.TheVariants as halt
use Rattle.psac_trace.specs.Fit.{Fit, ParentKept}
use Rattle.psac_trace.specs.Grown.{Made, made_below, count, as_own, Moves, Cause, IsFull}
use Rattle.psac_trace.specs.Asking.{looks_for}
use Rattle.psac_trace.specs.Looks.{Looks}
use Rattle.psac_trace.specs.Rights.{Heap, held, In, Within, Wider, Named, Sees, Target, Tidy, Ready, Moved, Unchanged}
use Rattle.psac_trace.specs.Raising.{puts, Aged, Raisable, Warns, RaisesBy, Rewrote}
use Rattle.psac_slots.specs.Handles.{Member}
use Rattle.psac_trace.specs.Told.{Ended, Good, Fault, Other, what, Told, Needs, Tells, AreChecked, then_ended, bared, Follows}

-- where a call ends with a record or a fault, no index was drawn past the room
abbrev pub RoomAfter : Pass → Ended Kept → Type 0
RoomAfter p (Good k) = HasRoom p
RoomAfter p (Fault k i n) = HasRoom p
RoomAfter p (Other k why) = Unit {0}

-- of nodes and of links, what was made and the indexes that were drawn in vain are no more than what was begun
abbrev pub AtMost : Pass → Made → Made → Type 0
AtMost q made begun = (count cap.Nodes made + q.marks.knows.claims.over ≤ count cap.Nodes begun) × (count cap.Links made + q.readers.knows.claims.over ≤ count cap.Links begun)

-- what a call made is all that it recorded, also where it stopped at a fault; else it is the modifiables that were begun, and no
-- more nodes and links
abbrev pub AllMade : (Kept → Made) → Pass → Made → Ended Kept → Type 0
AllMade made_by q made (Good k) = made ≡ made_by k
AllMade made_by q made (Fault k i n) = made ≡ made_by k
AllMade made_by q made (Other k why) = (made.mods ≡ (made_by k).mods) × AtMost q made (made_by k)

-- a full table is so by an index that this call drew
abbrev pub FullBy : Pass → Pass → Ended Kept → Type 0
FullBy p q (Other k (Some c)) = IsFull p q c
FullBy p q e = Unit {0}

-- what a run of statements begins with: also, that what it makes stands below a node that is kept
pub record Begins (w : Setting Handle) (funcs : List Func) (olds : List Handle) (t : Tables) (body : List Stmt) (env : Env Handle) (par : Option Handle) (p : Pass) : Type 0 where
  pub of : IsOf p t
  pub checked : AreChecked funcs
  pub room : HasRoom p
  pub tidy : Tidy p.values.knows
  pub fit : Fit p
  pub parent : ParentKept par p.marks.knows
  pub needs : Needs w body env p.values.knows
  pub warns : Warns w olds body env p

-- what a run of statements leaves
pub record Leaves (w : Setting Handle) (deep : Tracing Handle) (first : Cuts Handle) (olds : List Handle) (t : Tables) (body : List Stmt) (env : Env Handle) (par : Option Handle) (p q : Pass) (e : Ended Kept) : Type 0 where
  pub made : Made
  pub moves : Moves t p q made
  pub all : AllMade (made_below par) q made e
  pub room : RoomAfter q e
  pub full : FullBy p q e
  pub raises : RaisesBy olds p q e
  pub words : Rewrote p.values.knows q.values.knows (puts (what e))
  pub looks : Looks 0 p.values.knows q.values.knows (what e)
  pub tells : Tells w deep first body env p.values.knows q.values.knows (bared e)

-- an inner body begins as it needs, and writes the destinations that the statement is to write
pub record Enters (w : Setting Handle) (st mid : Standing) (env : Env Handle) (v : ValueView) (base : Heap) (body : List Stmt) (inner : Env Handle) : Type 0 where
  pub names : Standing
  pub end : Standing
  pub meets : series body names ≡ Some end
  pub ready : Ready w names end.unwritten inner v base
  pub left : List ℕ
  pub within : all_in left st.unwritten ≡ true
  pub settles : settled left st ≡ mid
  pub out : (m : Handle) → Target names end.unwritten inner m → Target st left env m
  pub into : (m : Handle) → Target st left env m → Target names end.unwritten inner m

-- the sides of a par meet the rule, and none writes what the other does
pub record Parts (st mid : Standing) (left right : List Stmt) : Type 0 where
  pub one : List ℕ
  pub two : List ℕ
  pub first : left_by (map series_of left) st ≡ Some one
  pub second : left_by (map series_of right) st ≡ Some two
  pub apart : all_in (without one st.unwritten) two ≡ true
  pub settles : settled (in_both one two) st ≡ mid

-- what a statement asks for begins as it needs
abbrev pub Goes : Setting Handle → Standing → Standing → Env Handle → ValueView → Heap → Action Handle → Type 0
Goes w st mid env v base (Bind x y) = (is_new st x ≡ true) × (with_value x st ≡ mid) × Named base y
Goes w st mid env v base (Make d) = (is_new st d ≡ true) × (with_dest d st ≡ mid)
Goes w st mid env v base (Put m y) = (d : ℕ) × (has d st.unwritten ≡ true) × (settled (without (d ∷ []) st.unwritten) st ≡ mid) × (bound d env ≡ Some (ref m)) × Named base y
Goes w st mid env v base (Body body inner) = Enters w st mid env v base body inner
Goes w st mid env v base (Block block reads body inner) = Enters w st mid env v base body inner
Goes w st mid env v base (Sides left right) = Parts st mid left right

-- where a pass is ready for what is asked for, and for the rest of the body
abbrev pub NeedsAct : Setting Handle → Action Handle → List Stmt → Env Handle → ValueView → Type 0
NeedsAct w a rest env v = (base : Heap) × (st : Standing) × (mid : Standing) × (end : Standing) × (series rest mid ≡ Some end) × Ready w st end.unwritten env v base × Goes w st mid env v base a

abbrev pub TellsAct : Setting Handle → ℕ → Tracing Handle → Cuts Handle → Action Handle → List Stmt → Env Handle → ValueView → ValueView → Ended (Rec Handle) → Type 0
TellsAct w room deep first a rest env v u e = (base : Heap) (st mid end : Standing) → series rest mid ≡ Some end → Ready w st end.unwritten env v base → Goes w st mid env v base a → Told (acts room deep a) (cuts room deep first a) rest st end.unwritten env v u base e

-- what a read block read the base has
abbrev pub Saw : Heap → Action Handle → Type 0
Saw base (Block block reads body inner) = EachOf (λ m x. held base m ≡ Some x) reads
Saw base a = Unit {0}

-- where a pass is ready for what is asked for, it can raise the readers of each old destination that is to be written
pub record WarnsAct (w : Setting Handle) (olds : List Handle) (a : Action Handle) (rest : List Stmt) (env : Env Handle) (p : Pass) : Type 0 where
  pub aged : Aged olds p.values.knows
  pub base : Heap
  pub st : Standing
  pub mid : Standing
  pub end : Standing
  pub meets : series rest mid ≡ Some end
  pub ready : Ready w st end.unwritten env p.values.knows base
  pub goes : Goes w st mid env p.values.knows base a
  pub saw : Saw base a
  pub may : (m : Handle) → Member m olds → Target st end.unwritten env m → Raisable p m

-- what a read block read the pass knows
abbrev pub Sights : Action Handle → ValueView → Type 0
Sights (Block block reads body inner) v = EachOf (Sees v) reads
Sights a v = Unit {0}

pub record BeginsAct (w : Setting Handle) (funcs : List Func) (olds : List Handle) (t : Tables) (a : Action Handle) (rest : List Stmt) (env : Env Handle) (par : Option Handle) (p : Pass) : Type 0 where
  pub of : IsOf p t
  pub checked : AreChecked funcs
  pub room : HasRoom p
  pub tidy : Tidy p.values.knows
  pub fit : Fit p
  pub parent : ParentKept par p.marks.knows
  pub sights : Sights a p.values.knows
  pub needs : NeedsAct w a rest env p.values.knows
  pub warns : WarnsAct w olds a rest env p

pub record LeavesAct (w : Setting Handle) (level : ℕ) (deep : Tracing Handle) (first : Cuts Handle) (olds : List Handle) (t : Tables) (a : Action Handle) (rest : List Stmt) (env : Env Handle) (par : Option Handle) (p q : Pass) (e : Ended Kept) : Type 0 where
  pub made : Made
  pub moves : Moves t p q made
  pub all : AllMade (made_below par) q made e
  pub room : RoomAfter q e
  pub full : FullBy p q e
  pub raises : RaisesBy olds p q e
  pub words : Rewrote p.values.knows q.values.knows (puts (what e))
  -- its reads were looked at before
  pub looks : Looks (looks_for a) p.values.knows q.values.knows (what e)
  pub tells : TellsAct w level deep first a rest env p.values.knows q.values.knows (bared e)

-- behind a compound statement, whose node this is and which ended so, the rest begins where that is done
abbrev pub BeginsAfter : Setting Handle → List Func → List Handle → Tables → Handle → Ended Kept → List Stmt → Env Handle → Pass → Type 0
BeginsAfter w funcs olds t node (Good k) rest env p = Begins w funcs olds t rest env (Some node) p
BeginsAfter w funcs olds t node e rest env p = Unit {0}

-- and what it leaves then; else nothing happens
abbrev pub LeavesAfter : Setting Handle → Tracing Handle → Cuts Handle → List Handle → Tables → Handle → Ended Kept → List Stmt → Env Handle → Pass → Pass → Ended Kept → Type 0
LeavesAfter w deep first olds t node (Good k) rest env p q e = (o : Ended Kept) × Leaves w deep first olds t rest env (Some node) p q o × Follows (then_ended (S node k) o) e
LeavesAfter w deep first olds t node (Fault k i n) rest env p q e = (q ≡ p) × (e ≡ Fault (S node k E) i n)
LeavesAfter w deep first olds t node (Other k why) rest env p q e = (q ≡ p) × (e ≡ Other (S node k E) why)

-- nodes and links

-- these were made, and no words changed
pub record Opens (t : Tables) (p q : Pass) (made : Made) : Type 0 where
  pub moves : Moves t p q made
  pub same : q.values.knows ≡ p.values.knows
  pub quiet : q.marks.knows.marked ≡ p.marks.knows.marked
  pub room : HasRoom q

-- there was want of slots or of memory; this was begun, and no words changed
pub record Wants (t : Tables) (p q : Pass) (begun : Made) (why : Option Cause) : Type 0 where
  pub made : Made
  pub moves : Moves t p q made
  pub same : q.values.knows ≡ p.values.knows
  pub quiet : q.marks.knows.marked ≡ p.marks.knows.marked
  pub mods : made.mods ≡ begun.mods
  pub most : AtMost q made begun
  pub full : IfSome why (IsFull p q)

-- and for that the call halts
abbrev pub HaltsFor : Tables → Pass → Pass → Made → Halt → Type 0
HaltsFor t p q begun (halt.Fault _ _) = ⊥
HaltsFor t p q begun (halt.Full which at) = Wants t p q begun (Some (record { which = which; index = at.index; room = at.room }))
HaltsFor t p q begun halt.NoMemory = Wants t p q begun None

abbrev pub nodes_only : List (Handle × Option Handle) → Made
nodes_only ns = record { mods = []; nodes = map as_own ns; links = [] }

abbrev pub links_only : List Stands → Made
links_only ls = record { mods = []; nodes = []; links = ls }

-- what a read block began with
pub record Began (depth number : ℕ) (scope : Env Handle) (saw : Reads Handle) (r : Reading) : Type 0 where
  pub level : r.level ≡ depth
  pub block : r.block ≡ number
  pub env : env_of r.env ≡ scope
  pub reads : reads_of r.reads ≡ saw

-- the nodes of a read block and of its statement, and the links of its reads
abbrev pub read_made : Option Handle → Handle → Reading → Made
read_made par node r = made_below par (S node (R r E) E)

-- sides

-- the records of both sides of a par, one after the other, on each heap that has the base
pub record Paired (deep : Tracing Handle) (ls rs : List Stmt) (env : Env Handle) (base : Heap) (a b : Rec Handle) (e f : End) : Type 0 where
  pub run : (heap : Heap) → Wider base heap → deep ls env heap a e × deep rs env (writes a ++ heap) b f
  pub fresh : (m : Handle) → In (writes b ++ writes a) m → held base m ≡ None

-- what both sides tell
abbrev pub Both : ℕ → Tracing Handle → Cuts Handle → List Stmt → List Stmt → List Stmt → Env Handle → ValueView → Standing → List ℕ → ValueView → Heap → Ended (Rec Handle) → Type 0
Both room deep first ls rs rest env v st left u base (Good t) =
    (a : Rec Handle) × (b : Rec Handle) × (rec.P a b ≡ t) × Paired deep ls rs env base a b Done Done × Moved st left env v u base (writes b ++ writes a) × Unchanged st left env v u
Both room deep first ls rs rest env v st left u base (Fault t k n) =
    (a : Rec Handle) × (b : Rec Handle) × (rec.P a b ≡ t) × ((e : End) × (f : End) × (first_stop e f ≡ Stop k n) × Paired deep ls rs env base a b e f × Within base (Sees u) × Unchanged st left env v u)
Both room deep first ls rs rest env v st left u base (Other t why) = CutOn same_handle (cuts room deep first (Sides ls rs)) rest env base (rec.S t rec.E) u.claims.over × Within base (Sees u)

abbrev pub TellsBoth : Setting Handle → ℕ → Tracing Handle → Cuts Handle → List Stmt → List Stmt → List Stmt → Env Handle → ValueView → ValueView → Ended (Rec Handle) → Type 0
TellsBoth w room deep first ls rs rest env v u e =
    (base : Heap) (st mid end : Standing) → series rest mid ≡ Some end → Ready w st end.unwritten env v base → (p : Parts st mid ls rs) → Both room deep first ls rs rest env v st (in_both p.one p.two) u base e

-- what both sides leave
pub record LeavesBoth (w : Setting Handle) (level : ℕ) (deep : Tracing Handle) (first : Cuts Handle) (olds : List Handle) (t : Tables) (ls rs rest : List Stmt) (env : Env Handle) (par : Option Handle) (p q : Pass) (e : Ended Kept) : Type 0 where
  pub made : Made
  pub moves : Moves t p q made
  pub all : AllMade (made_below par) q made e
  pub room : RoomAfter q e
  pub full : FullBy p q e
  pub raises : RaisesBy olds p q e
  pub words : Rewrote p.values.knows q.values.knows (puts (what e))
  pub looks : Looks 0 p.values.knows q.values.knows (what e)
  pub tells : TellsBoth w level deep first ls rs rest env p.values.knows q.values.knows (bared e)
