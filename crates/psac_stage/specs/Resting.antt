-- What holds of an engine's pass between two commits. Each fact is one that has at most one proof.
use Rattle.std.specs.Prelude.{◌≡◌, ℕ, ◌+◌, ◌<◌, ◌≤◌, [], Some}
use Rattle.psac_ops.specs.declared.plain.Handle.{Handle}
use Rattle.psac_slots.specs.Handles.{Member}
use Rattle.psac_slots.specs.Claiming.{Accounted, times}
use Rattle.psac_slots.specs.declared.view.ClaimView.{ClaimView}
use Rattle.psac_readers.specs.declared.view.ReadersView.{ReadersView}
use Rattle.psac_readers.specs.Chained.{mods_of}
use Rattle.psac_values.specs.declared.view.ValueView.{ValueView}
use Rattle.psac_marks.specs.declared.view.MarksView.{MarksView}
use Rattle.psac_fork.specs.declared.tables.Pass.{Pass}
use Rattle.psac_fork.specs.declared.tables.Tables.{Tables}
use Rattle.psac_fork.specs.Whole.{IsOf}
use Rattle.psac_inputs.specs.Grid.{Grid}
use Rattle.psac_model.specs.declared.ends.Caps.{Caps}
use Rattle.psac_stage.specs.Places.{fixed_slots}
use Rattle.psac_stage.specs.Holding.{HasGrid, HasFixed, IsBare}

-- the pass has the whole of a table of this size
pub record IsTop (most : ℕ) (c : ClaimView) : Type 0 where
  pub branch : c.branch ≡ []
  pub count_is : c.count ≡ most

-- the pass is sole, and drew no index since the list began
pub record IsRewound (c : ClaimView) : Type 0 where
  pub drawn : c.drawn ≡ []
  pub over : c.over ≡ 0
  pub counter : c.counter ≡ Some 0
  pub whole : Accounted c

-- no generation is above the age
pub record IsYoung (age : ℕ) (c : ClaimView) : Type 0 where
  pub free : (h : Handle) → Member h c.list → h.generation ≤ age
  pub out : (h : Handle) → Member h c.held → h.generation ≤ age

-- the pass alone has the set of each modifiable
pub record HasSets (mods : ℕ) (v : ReadersView) : Type 0 where
  pub mods_is : v.mods ≡ mods
  pub all : (m : ℕ) → m < mods → 0 < times m (mods_of v.walk)
  pub alone : v.shared ≡ []

-- the pass has all, the inputs and outputs among them; the words of the inputs are the grid's
pub record AllOf (g : Grid) (outs : ℕ) (caps : Caps) (age : ℕ) (v : ValueView) (r : ReadersView) (m : MarksView) : Type 0 where
  pub mods : IsTop caps.mods v.claims
  pub links : IsTop caps.links r.claims
  pub nodes : IsTop caps.nodes m.claims
  pub young_mods : IsYoung age v.claims
  pub young_nodes : IsYoung age m.claims
  pub fixed : HasFixed (fixed_slots g outs) v
  pub grid : HasGrid g outs v
  pub sets : HasSets (fixed_slots g outs + caps.mods) r
  pub alone : m.shared ≡ []

abbrev pub HasAll : Grid → ℕ → Caps → ℕ → Pass → Type 0
HasAll g outs caps age p = AllOf g outs caps age p.values.knows p.readers.knows p.marks.knows

pub record IsRested (p : Pass) : Type 0 where
  pub mods : IsRewound p.values.knows.claims
  pub links : IsRewound p.readers.knows.claims
  pub nodes : IsRewound p.marks.knows.claims

-- nothing that was made is out, each set is empty, and nothing is marked
pub record IsCleared (fixed : ℕ) (p : Pass) : Type 0 where
  pub mods : p.values.knows.claims.held ≡ []
  pub bare : IsBare fixed p.values.knows
  pub links : p.readers.knows.links ≡ []
  pub links_out : p.readers.knows.claims.held ≡ []
  pub nodes : p.marks.knows.own ≡ []
  pub nodes_out : p.marks.knows.claims.held ≡ []
  pub marks : (p.marks.knows.marked ≡ []) × (p.marks.knows.busy ≡ []) × (p.marks.knows.dropped ≡ [])

-- the pass is at rest over the grid, with so many outputs, and nothing that was made is out
pub record MayRun (outs : ℕ) (g : Grid) (caps : Caps) (age : ℕ) (t : Tables) (p : Pass) : Type 0 where
  pub of : IsOf p t
  pub all : HasAll g outs caps age p
  pub rested : IsRested p
  pub clear : IsCleared (fixed_slots g outs) p
