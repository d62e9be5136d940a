-- What a call of the walk needs of a pass, and what it leaves, in layers: each is an algebra of its own.
use Rattle.std.specs.Prelude.{◌≡◌, ℕ, ◌+◌, ◌≤◌, ◌<◌, List, length, Option, Some, sum_by}
use Rattle.psac_ops.specs.declared.plain.Handle.{Handle}
use Rattle.psac_syntax.specs.declared.program.Func.{Func}
use Rattle.psac_slots.specs.Claiming.{times}
use Rattle.psac_slots.specs.declared.view.ClaimView.{ClaimView}
use Rattle.psac_values.specs.declared.view.ValueView.{ValueView}
use Rattle.psac_readers.specs.declared.view.ReadersView.{ReadersView}
use Rattle.psac_marks.specs.declared.view.OwnView.{OwnView}
use Rattle.psac_marks.specs.declared.view.MarksView.{MarksView}
use Rattle.psac_marks.specs.Steps.{cleared}
use Rattle.psac_fork.specs.declared.tables.Pass.{Pass}
use Rattle.psac_model.specs.declared.ends.CapKind.{CapKind}
use Rattle.psac_model.specs.declared.ends.CapKind.TheVariants as cap
use Rattle.psac_traced.specs.Rec.{Rec}
use Rattle.psac_traced.specs.Places.{IsApart}
use Rattle.psac_trace.specs.Rights.{Tidy, Kept as Stays}
use Rattle.psac_trace.specs.Told.{AreChecked}
use Rattle.psac_trace.specs.Fit.{SetsReady, Rooted}
use Rattle.psac_trace.specs.Grown.{MoreClaims, MoreValues, Cause, nodes_in as handles_in}
use Rattle.psac_record.specs.Kept.{Kept, Stands, links_of, all_of}
use Rattle.psac_repair.specs.Ended.{Ended, Good, Fault, Other}
use Rattle.psac_repair.specs.Outcomes.{OnGood}
use Rattle.psac_repair.specs.Stood.{Owned}
use Rattle.psac_repair.specs.Planted.{slots, Planted, Passed, Replanted, Halves}
use Rattle.psac_repair.specs.Unshared.{Unshared}
use Rattle.psac_repair.specs.Taking.{taken, given}
use Rattle.psac_repair.specs.Rewired.{Ordered, Wired, Relinks, Rewired}
use Rattle.psac_repair.specs.Exchanged.{Swapped, Replaced}
use Rattle.psac_repair.specs.FitLaws.{Unspared}
use Rattle.psac_repair.specs.Watched.{Watched, Woken, Steady}

-- what a pass knows of all tables
pub record Views : Type 0 where
  pub values : ValueView
  pub readers : ReadersView
  pub marks : MarksView

abbrev pub views : Pass → Views
views p = record { values = p.values.knows; readers = p.readers.knows; marks = p.marks.knows }

abbrev pub claims_of : CapKind → Views → ClaimView
claims_of cap.Nodes p = p.marks.claims
claims_of cap.Mods p = p.values.claims
claims_of cap.Links p = p.readers.claims

-- in no table an index past the room was drawn
abbrev pub Roomy : Views → Type 0
Roomy p = (p.values.claims.over ≡ 0) × (p.readers.claims.over ≡ 0) × (p.marks.claims.over ≡ 0)

-- a call on the record k needs it, where these nodes are outside and the record stands below this one. What is needed of values, N,
-- is said of the record `stood`: of k alone, or, where k is a part of a body, of k with the rest behind it
pub record Before (N : Rec Handle → ValueView → Type 0) (funcs : List Func) (us : List ℕ) (above : Option Handle) (stood : Rec Handle) (k : Kept) (p : Views) : Type 0 where
  pub checked : AreChecked funcs
  pub room : Roomy p
  pub sets : SetsReady p.values p.readers
  pub rooted : Rooted p.marks
  -- values and the record
  pub tidy : Tidy p.values
  pub owned : Owned p.values stood
  pub once : IsApart stood
  pub needs : N stood p.values
  -- nodes and marks
  pub planted : Planted p.marks us above k
  pub unshared : Unshared p.marks
  -- links
  pub wired : Wired p.readers p.marks us above k
  pub ordered : Ordered k
  -- none of what it made or wrote is one of the slots that a claim may give
  pub aged : Unspared p.values k
  -- readers
  pub watched : Watched p.values p.marks k

-- what a call leaves, however it ended
pub record Lasting (p q : Views) : Type 0 where
  pub stays : Stays p.values q.values
  -- so many slots were claimed of each table, each from the list
  pub drew : CapKind → ℕ
  pub claims : (c : CapKind) → MoreClaims (claims_of c p) (claims_of c q) (drew c)
  -- and so many indexes were drawn of it, with those past the list
  pub drawn : CapKind → ℕ
  pub indexes : (c : CapKind) → length (claims_of c q).drawn ≡ length (claims_of c p).drawn + drawn c
  -- these modifiables were made, one in each slot that was claimed
  pub mods : List Handle
  pub values : MoreValues p.values q.values mods
  pub mods_drew : drew cap.Mods ≡ length mods
  -- so were these nodes, each with its parent, and the nodes of these slots are dropped
  pub nodes : List OwnView
  pub gone_nodes : List ℕ
  pub swapped : Swapped p.marks q.marks gone_nodes (handles_in nodes)
  pub own : (g : OwnView → ℕ) → sum_by g q.marks.own ≡ sum_by g p.marks.own + sum_by g nodes
  pub nodes_drew : drew cap.Nodes ≡ length nodes
  pub shared : q.marks.shared ≡ p.marks.shared

-- where a call ended with a record or at a fault, it drew no index past the list
abbrev pub RoomAfter : Views → Ended → Type 0
RoomAfter q (Good r) = Roomy q
RoomAfter q (Fault why line) = Roomy q
RoomAfter q (Other why) = Unit {0}

-- the call drew the index, and it isn't below the length of the list
pub record IsFull (p q : Views) (c : Cause) : Type 0 where
  pub list : c.room ≡ length (claims_of c.which p).list
  pub past : c.room ≤ c.index
  pub drew : times c.index (claims_of c.which p).drawn < times c.index (claims_of c.which q).drawn

-- a full table is so by an index that this call drew
abbrev pub FullBy : Views → Views → Ended → Type 0
FullBy p q (Other (Some c)) = IsFull p q c
FullBy p q e = Unit {0}

-- what it leaves outside of the record: nodes and words of others stand as they stood, and marks were only raised
pub record Beside (us : List ℕ) (k : Kept) (p q : Views) : Type 0 where
  pub room : Roomy q
  pub sets : SetsReady q.values q.readers
  pub rooted : Rooted q.marks
  pub passed : Passed p.marks q.marks us (slots k)
  pub steady : Steady p.values q.values k

-- and what it leaves of the new record
pub record Went (us : List ℕ) (above : Option Handle) (k new : Kept) (gone made : List Stands) (p q : Views) : Type 0 where
  pub replanted : Replanted p.marks q.marks us above k new
  pub rewired : Rewired p.readers q.readers k new gone made
  pub gone_is : gone ≡ all_of links_of (taken k new)
  pub made_is : made ≡ all_of links_of (given k new)
  pub woken : Woken p.readers p.values q.values q.marks us

-- what a call on k leaves, by which k became `new`. What is told of values and of the indexes that were drawn, T, is of the record
-- alone or of a part of a body. Where there is no new record, also where a block stopped at a fault, no more is told than what lasts
-- and what the end says
pub record After (T : ValueView → ValueView → (CapKind → ℕ) → Ended → Type 0) (us : List ℕ) (above : Option Handle) (k new : Kept) (p q : Views) (e : Ended) : Type 0 where
  pub lasting : Lasting p q
  pub tells : T p.values q.values lasting.drawn e
  pub room : RoomAfter q e
  pub full : FullBy p q e
  -- these links of the record were left, and these entered, one in each slot that was claimed
  pub gone : List Stands
  pub made : List Stands
  pub links_drew : lasting.drew cap.Links ≡ length made
  pub relinks : Relinks p.readers q.readers k gone made
  pub beside : OnGood e (Beside us k p q)
  pub went : OnGood e (Went us above k new gone made p q)
  pub replaced : OnGood e (Replaced k new lasting.mods (handles_in lasting.nodes) lasting.gone_nodes)

-- both parts below a node are done, and the node isn't cleared yet. The node with both is f of them
pub record WentBelow (us : List ℕ) (n : Handle) (f : Kept → Kept → Kept) (a b u w : Kept) (gone made : List Stands) (p q : Views) : Type 0 where
  pub halves : Halves p.marks q.marks us n a b u w
  pub rewired : Rewired p.readers q.readers (f a b) (f u w) gone made
  pub gone_is : gone ≡ all_of links_of (taken (f a b) (f u w))
  pub made_is : made ≡ all_of links_of (given (f a b) (f u w))
  pub woken : Woken p.readers p.values q.values q.marks us

pub record AfterBelow (T : ValueView → ValueView → (CapKind → ℕ) → Ended → Type 0) (us : List ℕ) (n : Handle) (f : Kept → Kept → Kept) (a b u w : Kept) (p q : Views) (e : Ended) : Type 0 where
  pub lasting : Lasting p q
  pub tells : T p.values q.values lasting.drawn e
  pub room : RoomAfter q e
  pub full : FullBy p q e
  pub gone : List Stands
  pub made : List Stands
  pub links_drew : lasting.drew cap.Links ≡ length made
  pub relinks : Relinks p.readers q.readers (f a b) gone made
  pub beside : OnGood e (Beside us (f a b) p q)
  pub went : OnGood e (WentBelow us n f a b u w gone made p q)
  pub replaced : OnGood e (Replaced (f a b) (f u w) lasting.mods (handles_in lasting.nodes) lasting.gone_nodes)

-- a node was asked
abbrev pub Asks : Views → Views → Type 0
Asks p q = (n : ℕ) × (q ≡ record p { marks = record p.marks { asks = n } })

-- words were looked at
abbrev pub Looks : Views → Views → Type 0
Looks p q = (n : ℕ) × (q ≡ record p { values = record p.values { looks = n } })

-- a node was cleared
abbrev pub Clears : Handle → Views → Views → Type 0
Clears n p q = q ≡ record p { marks = cleared n.slot p.marks }
