-- What the calls of a repair need and leave.
use Rattle.std.specs.Prelude.{◌≡◌, ℕ, List, ◌∷◌, length, Option, Some, slice_get}
use Rattle.std.specs.Borrow.{Bor}
use Rattle.psac_ops.specs.declared.plain.Handle.{Handle}
use Rattle.psac_ops.specs.declared.plain.TextId.{TextId}
use Rattle.psac_syntax.specs.declared.program.Stmt.{Stmt, out-Stmt}
use Rattle.psac_syntax.specs.declared.program.Stmt.TheOpen.{Stmt-F}
use Rattle.psac_syntax.specs.declared.program.ReadItem.{ReadItem}
use Rattle.psac_syntax.specs.declared.program.Func.{Func}
use Rattle.psac_values.specs.declared.view.ValueView.{ValueView}
use Rattle.psac_fork.specs.declared.crew.Crew.{Crew}
use Rattle.psac_fork.specs.declared.tables.Tables.{Tables}
use Rattle.psac_fork.specs.declared.tables.Pass.{Pass}
use Rattle.psac_model.specs.declared.ends.CapKind.{CapKind}
use Rattle.psac_model.specs.Expression.{Setting}
use Rattle.psac_traced.specs.Rec.{Rec, S}
use Rattle.psac_traced.specs.Bodies.{IsCode}
use Rattle.psac_record.specs.declared.parts.Reading.{Reading}
use Rattle.psac_record.specs.Kept as kept
use Rattle.psac_record.specs.Kept.{Kept, bare}
use Rattle.psac_record.specs.Shown.{kept_of}
use Rattle.psac_trace.specs.Asking.{setting_on}
use Rattle.psac_trace.specs.declared.ground.Ground.{Ground}
use Rattle.psac_repair.specs.declared.outcome.Outcome.{Outcome}
use Rattle.psac_repair.specs.declared.world.World.{World}
use Rattle.psac_repair.specs.Ended.{Ended}
use Rattle.psac_repair.specs.Indexed.{Code}
use Rattle.psac_repair.specs.Mends.{Needs, Tells, TellsPart}
use Rattle.psac_repair.specs.Outcomes.{end_of, OnGood}
use Rattle.psac_repair.specs.Going.{Views, views, Before, After}
use Rattle.psac_repair.specs.Sparing.{IsFounded, Sparing, Since}
use Rattle.psac_repair.specs.Marks.{IsMarked}

-- the world of these parts
abbrev pub world_of : Bor Crew → Bor Tables → (ground : Ground) → Bor (List TextId) → Bor (List Func) → Bor (List Stmt) → Bor (List Code) → World
world_of crew tables ground texts funcs main blocks =
    record { crew = crew; tables = tables; ground = ground; texts = texts; funcs = funcs; main = main; blocks = blocks }

abbrev pub setting_of : World → Setting Handle
setting_of g = setting_on g.ground g.texts.now

-- the statements that a run of main may come to
abbrev pub Inside : World → List Stmt → Type 0
Inside g = IsCode g.funcs.now g.main.now

-- each read block of these stands at its number
abbrev pub IsIndexed : World → Type 0
IsIndexed g =
    (s : Stmt) (rest : List Stmt) (line number : ℕ) (items : List ReadItem) (body : List Stmt) → out-Stmt s ≡ Stmt-F.Read line number items body → Inside g (s ∷ rest) → (code : Code) × (slice_get g.blocks.now number ≡ Some code) × (code.0.now ≡ items) × (code.1.now ≡ body)

abbrev pub NeedsIn : World → Rec Handle → ValueView → Type 0
NeedsIn g = Needs (setting_of g) g.funcs.now (Inside g)

abbrev pub TellsIn : World → Rec Handle → ValueView → ValueView → (CapKind → ℕ) → Ended → Type 0
TellsIn g = Tells (setting_of g) g.funcs.now (Inside g)

abbrev pub PartIn : World → Rec Handle → Rec Handle → ValueView → ValueView → (CapKind → ℕ) → Ended → Type 0
PartIn g = TellsPart (setting_of g) g.funcs.now (Inside g)

-- where a record stands with these nodes outside, below this one
abbrev pub BeforeIn : World → List ℕ → Option Handle → Rec Handle → Kept → Views → Type 0
BeforeIn g = Before (NeedsIn g) g.funcs.now

-- a call on a part before the rest of its body
abbrev pub BeginsPart : World → Kept → Kept → Pass → Type 0
BeginsPart g k rest p = IsIndexed g × (us : List ℕ) × (above : Option Handle) × BeforeIn g us above (S (bare k) (bare rest)) k (views p)

abbrev pub LeavesPart : World → Kept → Kept → Kept → Pass → Pass → Ended → Type 0
LeavesPart g k rest new p q e =
    (us : List ℕ) (above : Option Handle) → BeforeIn g us above (S (bare k) (bare rest)) k (views p) → After (PartIn g (bare k) (bare rest)) us above k new (views p) (views q) e

abbrev pub LeftPart : World → Kept → Kept → Pass → Pass → Outcome → Type 0
LeftPart g k rest p q o = LeavesPart g k rest (kept_of o.tree) p q (end_of o)

-- a call on a record
abbrev pub Begins : World → Kept → Pass → Type 0
Begins g k p = IsIndexed g × (us : List ℕ) × (above : Option Handle) × BeforeIn g us above (bare k) k (views p)

abbrev pub Leaves : World → Kept → Kept → Pass → Pass → Ended → Type 0
Leaves g k new p q e = (us : List ℕ) (above : Option Handle) → BeforeIn g us above (bare k) k (views p) → After (TellsIn g (bare k)) us above k new (views p) (views q) e

abbrev pub Left : World → Kept → Pass → Pass → Outcome → Type 0
Left g k p q o = Leaves g k (kept_of o.tree) p q (end_of o)

-- how little a call does that leaves a record, where each marked node of the old one stood over a block that read other
-- words than are present
abbrev pub Spares : World → Kept → Pass → Pass → Outcome → Type 0
Spares g k p q o =
    (us : List ℕ) (above : Option Handle) → BeforeIn g us above (bare k) k (views p) → IsFounded (views p) k
    → OnGood (end_of o) (Sparing us k (kept_of o.tree) (views p) (views q))

-- a part before the rest of its body
abbrev pub SparesPart : World → Kept → Kept → Pass → Pass → Outcome → Type 0
SparesPart g k rest p q o =
    (us : List ℕ) (above : Option Handle) → BeforeIn g us above (S (bare k) (bare rest)) k (views p)
    → IsFounded (views p) k
    → OnGood (end_of o) (Sparing us k (kept_of o.tree) (views p) (views q))

-- the same of a part whose node is marked, told from before that node was asked
abbrev pub SparesSince : ℕ → World → Handle → Kept → Kept → Pass → Pass → Outcome → Type 0
SparesSince looks g n k rest p q o =
    (before : Views) → Since looks 1 before (views p) → (us : List ℕ) (above : Option Handle)
    → BeforeIn g us above (S (bare k) (bare rest)) k (views p) → IsFounded (views p) k → IsMarked p.marks.knows n
    → OnGood (end_of o) (Sparing us k (kept_of o.tree) before (views q))

-- both sides of a par, and a read block, before they are asked
abbrev pub SparesPair : World → Handle → Kept → Kept → Kept → Pass → Pass → Outcome → Type 0
SparesPair g n l k = SparesPart g (kept.P n l k)

abbrev pub SparesBlock : World → Reading → Kept → Kept → Pass → Pass → Outcome → Type 0
SparesBlock g b t = SparesPart g (kept.R b t)

-- and behind that, also once the reads of the block were looked at
abbrev pub SparesSides : World → Handle → Kept → Kept → Kept → Pass → Pass → Outcome → Type 0
SparesSides g n l k = SparesSince 0 g n (kept.P n l k)

abbrev pub SparesAgain : World → Reading → Kept → Kept → Pass → Pass → Outcome → Type 0
SparesAgain g b t = SparesSince (length b.reads) g b.node (kept.R b t)
