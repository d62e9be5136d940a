-- What a pass has where a repair is done and its tables were regained, and what it has once that is given back which the repair took off.
use Rattle.std.specs.Prelude.{◌≡◌, ◌⊎◌, ℕ, ◌+◌, ◌<◌, ◌≤◌, List, [], map, None, sum_by}
use Rattle.psac_ops.specs.declared.plain.Handle.{Handle}
use Rattle.psac_slots.specs.Handles.{Member, slot_times}
use Rattle.psac_readers.specs.declared.view.Stage.TheVariants.{In}
use Rattle.psac_readers.specs.declared.view.LinkView.{LinkView}
use Rattle.psac_readers.specs.Chained.{mods_of}
use Rattle.psac_values.specs.declared.view.OwnedView.{OwnedView}
use Rattle.psac_values.specs.declared.view.ValueView.{ValueView}
use Rattle.psac_marks.specs.declared.view.MarksView.{MarksView}
use Rattle.psac_marks.specs.Passes.{IsKept}
use Rattle.psac_fork.specs.declared.tables.Pass.{Pass}
use Rattle.psac_inputs.specs.Grid.{Grid, IsGrid}
use Rattle.psac_model.specs.declared.ends.Caps.{Caps}
use Rattle.psac_traced.specs.Scoped.{Scoped}
use Rattle.psac_record.specs.Kept.{Kept, Stands, made_of, links_of, nodes_in, all_of, bare}
use Rattle.psac_trace.specs.Fit.{Rooted}
use Rattle.psac_trace.specs.Grown.{MoreValues}
use Rattle.psac_repair.specs.Marks.{Nodes}
use Rattle.psac_repair.specs.Planted.{slots, Families}
use Rattle.psac_repair.specs.Taking.{taken, given}
use Rattle.psac_repair.specs.Exchanged.{Exchanged, Swapped}
use Rattle.psac_repair.specs.Going.{Views, views, Beside, Went}
use Rattle.psac_reclaim.specs.Parts.{nodes_of, in_all, Outside}
use Rattle.psac_reclaim.specs.Gave.{out_of}
use Rattle.psac_reclaim.specs.Owed.{AreSole, IsNamed, entered, ValuesOwed, ReadersOwed, MarksOwed, ValuesLeft, ReadersLeft, MarksLeft}
use Rattle.psac_stage.specs.Holding.{words_in, entries}
use Rattle.psac_stage.specs.Recorded.{HasNodes, HasLinks}
use Rattle.psac_stage.specs.Resting.{IsYoung, HasAll, IsRested}
use Rattle.psac_stage.specs.Settling.{Settles}

-- before a repair: what is out is the record's, nothing is dropped, and the pass alone has each set
pub record HasRecord (k : Kept) (p : Views) : Type 0 where
  pub mods : (f : Handle → ℕ) → sum_by f (out_of p.values) ≡ sum_by f (made_of k)
  pub nodes : (f : Handle → ℕ) → sum_by f p.marks.claims.held ≡ sum_by f (nodes_in k)
  pub links : (f : LinkView → ℕ) → sum_by f p.readers.links ≡ sum_by f (map (entered In) (links_of k))
  pub undropped : (x : ℕ) → IsKept p.marks x
  pub sets : (m : ℕ) → m < p.readers.mods → Member m (mods_of p.readers.walk)

-- what a done repair of it leaves: the subtrees that were taken off are exchanged for those that stand in their place, of each kind
pub record Repairs (k new : Kept) (p q : Views) : Type 0 where
  pub exchanged : Exchanged k new (taken k new) (given k new)
  pub swapped : Swapped p.marks q.marks (all_of slots (taken k new)) (all_of nodes_in (given k new))
  pub values : MoreValues p.values q.values (all_of made_of (given k new))
  pub gone : List Stands
  pub made : List Stands
  pub went : Went [] None k new gone made p q
  pub beside : Beside [] k p q

-- no generation is the last one
abbrev pub IsFresh : ℕ → Pass → Type 0
IsFresh age z = (age < 4294967295) × IsYoung age z.values.knows.claims × IsYoung age z.marks.knows.claims

-- the subtrees may be given back beside the record
pub record Owes (new : Kept) (ks : List Kept) (z : Pass) : Type 0 where
  pub sole : AreSole z
  pub values : ValuesOwed (made_of new) (in_all made_of ks) z.values.knows
  pub readers : ReadersOwed (links_of new) (in_all links_of ks) z.readers.knows
  pub marks : MarksOwed (nodes_of new) (in_all nodes_of ks) z.marks.knows

abbrev pub PartsAreOwed : Type 0
PartsAreOwed =
    (k new : Kept) (p : Views) (q z : Pass) (age : ℕ) → HasRecord k p → Repairs k new p (views q) → Settles q z → IsFresh age z
    → Owes new (taken k new) z

-- where the reads of the new record name fixed slots and what was made before them, each names a fixed slot or what the record made
abbrev pub NamesStand : Type 0
NamesStand =
    (fixed : ℕ) (new : Kept) → Scoped (λ m. m.slot < fixed) (bare new) → (s : Stands) → Member s (links_of new)
    → IsNamed fixed (made_of new) s.of

-- the nodes stand as they stand in the record, and none is marked or dropped
pub record HasPlaces (new : Kept) (m : MarksView) : Type 0 where
  pub out : (f : Handle → ℕ) → sum_by f m.claims.held ≡ sum_by f (nodes_in new)
  pub nodes : Nodes m None new
  pub families : Families m new
  pub rooted : Rooted m
  pub unmarked : (m.marked ≡ []) × (m.busy ≡ []) × (m.dropped ≡ [])

abbrev pub NodesStandAgain : Type 0
NodesStandAgain =
    (k new : Kept) (p : Views) (q z : Pass) (w : MarksView) (age : ℕ) → HasRecord k p → Repairs k new p (views q) → Settles q z
    → IsFresh age z → MarksLeft (nodes_of new) (in_all nodes_of (taken k new)) z.marks.knows w → HasPlaces new w

-- the subtrees were given back
pub record GaveBack (new : Kept) (ks : List Kept) (z w : Pass) : Type 0 where
  pub values : ValuesLeft (made_of new) (in_all made_of ks) z.values.knows w.values.knows
  pub readers : ReadersLeft (links_of new) z.readers.knows w.readers.knows
  pub marks : MarksLeft (nodes_of new) (in_all nodes_of ks) z.marks.knows w.marks.knows

-- the pass has all that it had of the grid, a generation older, and is at rest
abbrev pub GridStands : Type 0
GridStands =
    (g : Grid) (outs : ℕ) (caps : Caps) (age : ℕ) (new : Kept) (ks : List Kept) (z w : Pass) → IsGrid g → HasAll g outs caps age z
    → IsRested z → Owes new ks z → GaveBack new ks z w → HasAll g outs caps (age + 1) w × IsRested w

-- what the pass told of these slots it tells, and it has nothing of what went
pub record Tells (slots : ℕ → Type 0) (ks : List Kept) (v w : ValueView) : Type 0 where
  pub words : (s : ℕ) → slots s → words_in s w.mine ≡ words_in s v.mine
  pub once : (s : ℕ) → slots s → entries s w.mine ≡ entries s v.mine
  pub only : (o : OwnedView) → Member o w.mine → Member o v.mine × Outside (in_all made_of ks) o.of.slot

-- the slot is a fixed one, or one that the record made
abbrev pub IsSlotOf : ℕ → Kept → ℕ → Type 0
IsSlotOf fixed new s = (s < fixed) ⊎ ((m : Handle) × Member m (made_of new) × (m.slot ≡ s))

abbrev pub ModsStand : Type 0
ModsStand =
    (new : Kept) (ks : List Kept) (z w : Pass) → IsRested z → Owes new ks z → GaveBack new ks z w
    → Tells (IsSlotOf z.values.knows.fixed new) ks z.values.knows w.values.knows

-- the new record's nodes and links are what the pass has, as between two commits
abbrev pub PlacesRecorded : Type 0
PlacesRecorded =
    (k new : Kept) (p : Views) (q z w : Pass) (age : ℕ) → HasRecord k p → Repairs k new p (views q) → Settles q z → IsFresh age z
    → z.marks.knows.claims.count < 4294967296 → GaveBack new (taken k new) z w
    → HasNodes new w.marks.knows × HasLinks new w.readers.knows

-- the pass has each slot once, and each that isn't fixed is one that the record made
pub record HasSlots (k : Kept) (v : ValueView) : Type 0 where
  pub once : (s : ℕ) → entries s v.mine ≤ 1
  pub mine : (o : OwnedView) → Member o v.mine → v.fixed ≤ o.of.slot → 0 < slot_times o.of.slot (made_of k)

abbrev pub SlotsRecorded : Type 0
SlotsRecorded =
    (k new : Kept) (p : Views) (q z w : Pass) → Repairs k new p (views q) → Settles q z → IsRested z → Owes new (taken k new) z
    → GaveBack new (taken k new) z w → q.values.knows.fixed ≡ p.values.fixed → HasSlots k p.values → HasSlots new w.values.knows
