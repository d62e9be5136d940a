-- What a batch changes of a pass that keeps a record, when it is put into the grid.
use Rattle.std.specs.Prelude.{◌≡◌, ℕ, ◌+◌, ◌*◌, ◌<◌, ◌==◌, not, List, [], ◌++◌, map, length, Some, None}
use Rattle.psac_ops.specs.declared.plain.Plain.{Plain}
use Rattle.psac_slots.specs.Handles.{Member}
use Rattle.psac_values.specs.declared.view.ValueView.{ValueView}
use Rattle.psac_readers.specs.declared.view.ReadersView.{ReadersView}
use Rattle.psac_marks.specs.declared.view.MarksView.{MarksView}
use Rattle.psac_readers.specs.Chained.{mods_of}
use Rattle.psac_raise.specs.Raise.{LeadUp, LeadUpIn, with_marks}
use Rattle.psac_inputs.specs.declared.batch.Edit.{Edit}
use Rattle.psac_fork.specs.declared.tables.Pass.{Pass}
use Rattle.psac_inputs.specs.Grid.{Grid, IsGrid}
use Rattle.psac_inputs.specs.Batch.{Batch, netted, put_all, IsBatch, GoesInto}
use Rattle.psac_model.specs.declared.ends.Caps.{Caps}
use Rattle.psac_model.specs.Fresh.{World, when}
use Rattle.psac_laws.proofs.Opening.{IsChecked}
use Rattle.psac_record.specs.Kept.{Kept, bare}
use Rattle.psac_plain.specs.Opened.{first_output}
use Rattle.psac_trace.specs.Raising.{AllBusy}
use Rattle.psac_repair.specs.declared.world.World as repair
use Rattle.psac_repair.specs.Going.{Views, views}
use Rattle.psac_repair.specs.Repairing.{setting_of, BeforeIn}
use Rattle.psac_repair.specs.Founded.{Coherent, Founded}
use Rattle.psac_stage.specs.Holding.{value_in}
use Rattle.psac_stage.specs.Storing.{SameSlots}
use Rattle.psac_stage.specs.Recorded.{setting_at, Recorded, Mendable}
use Rattle.psac_stage.specs.Resting.{HasAll, IsRested}

abbrev pub cell_slot : Grid → Edit → ℕ
cell_slot g e = e.row * g.cols + e.col

-- the slots that get other words: of each cell that gets another value, and of the number of rows where that is another one
abbrev pub changed : Grid → ℕ → Batch → List ℕ
changed g outs b = map (cell_slot g) (netted g b.edits) ++ when (not (b.rows == g.rows)) (first_output g + outs)

-- what a pass knows of all tables
abbrev pub three : ValueView → ReadersView → MarksView → Views
three v r m = record { values = v; readers = r; marks = m }

-- all who read the slot can be marked
pub record MayChange (s : ℕ) (p : Views) : Type 0 where
  pub inside : s < p.readers.mods
  pub walk : Member s (mods_of p.readers.walk)
  pub leads : LeadUp p.readers p.marks s

-- a pass has the same sets with the same links
pub record SameReaders (r q : ReadersView) : Type 0 where
  pub claims : q.claims ≡ r.claims
  pub mods : q.mods ≡ r.mods
  pub walk : mods_of q.walk ≡ mods_of r.walk
  pub shared : q.shared ≡ r.shared
  pub links : q.links ≡ r.links

-- these slots alone got words, and all who read one of them are marked. What is marked anew stands on the paths of these
pub record Changes (ss : List ℕ) (p q : Views) : Type 0 where
  pub same : SameSlots p.values q.values
  pub has : (s : ℕ) → Member s ss → (x : Plain) × (value_in s q.values.mine ≡ Some x)
  pub words : (s : ℕ) → (Member s ss → ⊥) → value_in s q.values.mine ≡ value_in s p.values.mine
  pub readers : SameReaders p.readers q.readers
  pub marks : List ℕ
  pub found : List ℕ
  pub becomes : q.marks ≡ with_marks marks found p.marks
  pub within : (us : List ℕ) → ((s : ℕ) → Member s ss → LeadUpIn p.readers p.marks us s) → (x : ℕ) → Member x marks → Member x us
  pub warned : (s : ℕ) → Member s ss → AllBusy p.readers q.marks s

-- a record that main's body left, beside a pass at rest, begins its repair once a batch is put in
abbrev pub StagedMends : Type 0
StagedMends =
    (w : World) (g : Grid) (b : Batch) (caps : Caps) (age : ℕ) (k : Kept) (p q : Pass)
    → IsGrid g → IsGrid (put_all b g) → IsBatch b → GoesInto b g → IsChecked w
    → HasAll g (length w.main.dests) caps age p → HasAll (put_all b g) (length w.main.dests) caps age q → IsRested p
    → Recorded w g k p.values.knows p.readers.knows p.marks.knows
    → Changes (changed g (length w.main.dests) b) (views p) (views q) → Mendable w (put_all b g) k (views q)

-- and each node that is marked then stands over a block that read other words than are present; what the record read of
-- its own is present
abbrev pub StagedFounds : Type 0
StagedFounds =
    (w : World) (g : Grid) (b : Batch) (caps : Caps) (age : ℕ) (k : Kept) (p q : Pass)
    → IsGrid g → IsBatch b → GoesInto b g → IsChecked w
    → HasAll g (length w.main.dests) caps age p → HasAll (put_all b g) (length w.main.dests) caps age q → IsRested p
    → Recorded w g k p.values.knows p.readers.knows p.marks.knows
    → Changes (changed g (length w.main.dests) b) (views p) (views q)
    → Coherent q.values.knows k × Founded q.values.knows q.marks.knows k

-- the code that a repair goes by is the program's, over the grid
abbrev pub IsOver : repair.World → World → Grid → Type 0
IsOver z w g = (setting_of z ≡ setting_at w g) × (z.funcs.now ≡ w.program.funcs) × (z.main.now ≡ w.main.body)

-- and so a repair may begin with the whole record
abbrev pub MendsBegin : Type 0
MendsBegin =
    (z : repair.World) (w : World) (g : Grid) (k : Kept) (p : Views) → IsOver z w g → Mendable w g k p → BeforeIn z [] None (bare k) k p
