-- What the read blocks of a record read and what is there now: what each part of a walk begins with, and what it leaves to the
-- blocks outside.
use Rattle.std.specs.Prelude.{◌≡◌, ◌⊎◌, ℕ, false, List, Some}
use Rattle.psac_ops.specs.declared.plain.Handle.{Handle}
use Rattle.psac_ops.specs.Value.{Value}
use Rattle.psac_slots.specs.Handles.{Member, word_of}
use Rattle.psac_values.specs.declared.view.ValueView.{ValueView}
use Rattle.psac_values.specs.Knowing.{Has}
use Rattle.psac_readers.specs.declared.view.Stage.TheVariants.{In}
use Rattle.psac_readers.specs.declared.view.LinkView.{LinkView}
use Rattle.psac_readers.specs.declared.view.ReadersView.{ReadersView}
use Rattle.psac_marks.specs.declared.view.MarksView.{MarksView}
use Rattle.psac_marks.specs.Passes.{IsBusy}
use Rattle.psac_raise.specs.Raise.{IsSlot}
use Rattle.psac_traced.specs.Holds.{EachOf}
use Rattle.psac_record.specs.Kept.{Kept, E, A, W, S, P, R, reads_of, bare}
use Rattle.psac_trace.specs.Rights.{Sees}
use Rattle.psac_repair.specs.Divided.{writes_slot}
use Rattle.psac_repair.specs.Seen.{Known}
use Rattle.psac_repair.specs.Marks.{Present}

-- the pass knows what each block read, and a block that read other words than are present is known to be marked
abbrev pub Watched : ValueView → MarksView → Kept → Type 0
Watched v m E = Unit {0}
Watched v m (A h r) = Watched v m r
Watched v m (W h x r) = Watched v m r
Watched v m (S n t r) = Watched v m t × Watched v m r
Watched v m (P n l r) = Watched v m l × Watched v m r
Watched v m (R b t) = (Known v b.reads × (EachOf (Present v) (reads_of b.reads) ⊎ IsBusy m b.node.slot)) × Watched v m t

-- each live reader of the modifiable in the slot, whose node stands in one of these, is known to be marked
abbrev pub AwakeIn : ReadersView → MarksView → List ℕ → ℕ → Type 0
AwakeIn r n us s = (l : LinkView) (h : Handle) → Member l r.links → l.of ≡ s → l.stage ≡ In → l.node ≡ Some (word_of h) → IsSlot h.slot → Member h.slot us → IsBusy n h.slot

-- from one view to another: what was known is known, and where it isn't the same any more, the pass had it, and its readers outside are awake
pub record Woken (r : ReadersView) (v u : ValueView) (n : MarksView) (us : List ℕ) : Type 0 where
  pub knows : (h : Handle) (x : Value Handle) → Sees v h x → (y : Value Handle) × Sees u h y
  pub same : (h : Handle) (x : Value Handle) → Sees v h x → ((y : Value Handle) → Sees u h y → Sees v h y) ⊎ (Has v h × AwakeIn r n us h.slot)

-- what the record neither made nor wrote keeps its words, and the pass knows no others of it. That is so after a fault too
abbrev pub Steady : ValueView → ValueView → Kept → Type 0
Steady v u k = (h : Handle) (x : Value Handle) → Sees v h x → writes_slot (bare k) h.slot ≡ false → Sees u h x × ((y : Value Handle) → Sees u h y → Sees v h y)
