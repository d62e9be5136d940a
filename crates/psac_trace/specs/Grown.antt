-- What a run adds to what a pass has in each table. Each table has an algebra of its own; sums by every weight survive a fork
-- and a join.
use Rattle.std.specs.Prelude.{◌≡◌, ◌⊎◌, ℕ, ◌+◌, ◌≤◌, ◌<◌, List, [], ◌∷◌, ◌++◌, map, length, Option, Some, sum_by}
use Rattle.psac_ops.specs.declared.plain.Handle.{Handle}
use Rattle.psac_slots.specs.Handles.{Member, word_of}
use Rattle.psac_slots.specs.Claiming.{times}
use Rattle.psac_slots.specs.declared.view.ClaimView.{ClaimView}
use Rattle.psac_values.specs.declared.view.OwnedView.{OwnedView}
use Rattle.psac_values.specs.declared.view.ValueView.{ValueView}
use Rattle.psac_values.specs.Steps.{Lacks, made_handle}
use Rattle.psac_values.specs.Knowing.{Has as MayWrite}
use Rattle.psac_readers.specs.declared.view.Stage.TheVariants.{In}
use Rattle.psac_readers.specs.declared.view.LinkView.{LinkView}
use Rattle.psac_readers.specs.declared.view.ReadersView.{ReadersView}
use Rattle.psac_readers.specs.Chained.{named, mods_of}
use Rattle.psac_marks.specs.declared.view.OwnView.{OwnView}
use Rattle.psac_marks.specs.declared.view.MarksView.{MarksView}
use Rattle.psac_marks.specs.Steps.{Lacks as LacksNode}
use Rattle.psac_marks.specs.Passes.{IsBusy, slot_of}
use Rattle.psac_fork.specs.declared.tables.Pass.{Pass}
use Rattle.psac_fork.specs.declared.tables.Tables.{Tables}
use Rattle.psac_fork.specs.Whole.{IsOf}
use Rattle.psac_model.specs.declared.ends.CapKind.{CapKind}
use Rattle.psac_model.specs.declared.ends.CapKind.TheVariants as cap
use Rattle.psac_record.specs.Kept.{Kept, Stands, nodes_below, links_of, made_of}
use Rattle.psac_trace.specs.Rights.{Kept as Stays}
use Rattle.psac_trace.specs.Fit.{Fit}

-- claims

-- so many slots were claimed, each from the list; an index past the list gave none
pub record MoreClaims (c d : ClaimView) (n : ℕ) : Type 0 where
  pub branch : d.branch ≡ c.branch
  pub list : d.list ≡ c.list
  pub count : d.count ≡ c.count
  pub head : d.head ≡ c.head
  pub drawn : length d.drawn + c.over ≡ length c.drawn + (n + d.over)
  pub drew : (k : ℕ) → times k c.drawn ≤ times k d.drawn
  pub held : (h : Handle) → Member h d.held → Member h c.held ⊎ Member h c.list

-- modifiables

-- no slot stands twice
abbrev pub Differ : List Handle → Type 0
Differ [] = Unit {0}
Differ (m ∷ ms) = ((n : Handle) → Member n ms → n.slot ≡ m.slot → ⊥) × Differ ms

-- these were made: no two are the same, the pass lacked them before and has them now
pub record MoreValues (v u : ValueView) (made : List Handle) : Type 0 where
  pub mine : (g : Handle → ℕ) → sum_by (λ (o : OwnedView). g o.of) u.mine ≡ sum_by (λ (o : OwnedView). g o.of) v.mine + sum_by g made
  pub held : (g : Handle → ℕ) → sum_by (λ (h : Handle). g (made_handle u.fixed h)) u.claims.held ≡ sum_by (λ (h : Handle). g (made_handle v.fixed h)) v.claims.held + sum_by g made
  pub differ : Differ made
  pub lacked : (m : Handle) → Member m made → Lacks v m.slot
  pub has : (m : Handle) → Member m made → MayWrite u m

-- nodes

abbrev pub as_own : Handle × Option Handle → OwnView
as_own n = record { node = n.0; parent = slot_of n.1 }

abbrev pub nodes_in : List OwnView → List Handle
nodes_in = map (λ (o : OwnView). o.node)

-- these were made, each below its parent: no two are the same, the pass lacked them before and has them now; nothing was dropped
pub record MoreNodes (v u : MarksView) (made : List OwnView) : Type 0 where
  pub branch : u.claims.branch ≡ v.claims.branch
  pub own : (g : OwnView → ℕ) → sum_by g u.own ≡ sum_by g v.own + sum_by g made
  pub held : (g : Handle → ℕ) → sum_by g u.claims.held ≡ sum_by g v.claims.held + sum_by (λ (o : OwnView). g o.node) made
  pub shared : u.shared ≡ v.shared
  pub dropped : (x : ℕ) → times x u.dropped ≡ times x v.dropped
  pub has : (o : OwnView) → Member o v.own → Member o u.own
  pub differ : Differ (nodes_in made)
  pub lacked : (o : OwnView) → Member o made → LacksNode v o.node.slot
  pub gained : (o : OwnView) → Member o made → Member o u.own

-- marks

-- marks were only added, and no node was asked
pub record MoreMarks (v u : MarksView) : Type 0 where
  pub marked : (x : ℕ) → times x v.marked ≤ times x u.marked
  pub busy : (x : ℕ) → IsBusy v x → IsBusy u x
  pub asks : u.asks ≡ v.asks

-- links

abbrev pub as_link : Stands → LinkView
as_link s = record { link = s.link.index; of = s.of.slot; node = Some (word_of s.node); stage = In }

-- these entered, and each stands once: none is another one, or one that the pass had before
pub record MoreLinks (v u : ReadersView) (entered : List Stands) : Type 0 where
  pub branch : u.claims.branch ≡ v.claims.branch
  pub mods : u.mods ≡ v.mods
  pub links : (g : LinkView → ℕ) → sum_by g u.links ≡ sum_by g v.links + sum_by (λ (s : Stands). g (as_link s)) entered
  pub once : (l : ℕ) → 0 < sum_by (λ (s : Stands). named l (as_link s)) entered → sum_by (named l) u.links ≤ 1
  pub walk : (g : ℕ → ℕ) → sum_by g (mods_of u.walk) ≡ sum_by g (mods_of v.walk)
  pub shared : u.shared ≡ v.shared

-- all tables

-- what a run made: modifiables, nodes with their parents, and links
pub record Made : Type 0 where
  pub mods : List Handle
  pub nodes : List OwnView
  pub links : List Stands

abbrev pub nothing : Made
nothing = record { mods = []; nodes = []; links = [] }

abbrev pub followed : Made → Made → Made
followed a b = record { mods = a.mods ++ b.mods; nodes = a.nodes ++ b.nodes; links = a.links ++ b.links }

-- all that a record has, where its first node stands below this one
abbrev pub made_below : Option Handle → Kept → Made
made_below par k = record { mods = made_of k; nodes = map as_own (nodes_below par k); links = links_of k }

abbrev pub count : CapKind → Made → ℕ
count cap.Nodes m = length m.nodes
count cap.Mods m = length m.mods
count cap.Links m = length m.links

abbrev pub claims_in : CapKind → Pass → ClaimView
claims_in cap.Nodes p = p.marks.knows.claims
claims_in cap.Mods p = p.values.knows.claims
claims_in cap.Links p = p.readers.knows.claims

-- from one pass to another of the same tables, by which these were made. All else that the pass had it has
pub record Moves (t : Tables) (p q : Pass) (m : Made) : Type 0 where
  pub of : IsOf q t
  pub stays : Stays p.values.knows q.values.knows
  pub fit : Fit q
  pub claims : (c : CapKind) → MoreClaims (claims_in c p) (claims_in c q) (count c m)
  pub values : MoreValues p.values.knows q.values.knows m.mods
  pub nodes : MoreNodes p.marks.knows q.marks.knows m.nodes
  pub links : MoreLinks p.readers.knows q.readers.knows m.links
  pub marks : MoreMarks p.marks.knows q.marks.knows

-- a table that is full: the index that was drawn, and the length of the free list
pub record Cause : Type 0 where
  pub which : CapKind
  pub index : ℕ
  pub room : ℕ

-- this call drew the index, and it isn't below the length of the list
pub record IsFull (p q : Pass) (c : Cause) : Type 0 where
  pub list : c.room ≡ length (claims_in c.which p).list
  pub past : c.room ≤ c.index
  pub drew : times c.index (claims_in c.which p).drawn < times c.index (claims_in c.which q).drawn
