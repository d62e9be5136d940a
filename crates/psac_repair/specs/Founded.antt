-- What a mark tells of the blocks that it stands over: what each part of a walk begins with, and what it leaves to the nodes outside.
use Rattle.std.specs.Prelude.{◌≡◌, ◌≢◌, ℕ, ◌<◌, true, List, Some}
use Rattle.psac_ops.specs.declared.plain.Handle.{Handle}
use Rattle.psac_ops.specs.declared.plain.Plain.{Plain}
use Rattle.psac_ops.specs.Value.{Value}
use Rattle.psac_ops.specs.Named.{value_of}
use Rattle.psac_slots.specs.Handles.{Member, word_of}
use Rattle.psac_slots.specs.Claiming.{times}
use Rattle.psac_values.specs.declared.view.ValueView.{ValueView}
use Rattle.psac_readers.specs.declared.view.Stage.TheVariants.{In}
use Rattle.psac_readers.specs.declared.view.LinkView.{LinkView}
use Rattle.psac_readers.specs.declared.view.ReadersView.{ReadersView}
use Rattle.psac_marks.specs.declared.view.MarksView.{MarksView}
use Rattle.psac_raise.specs.Raise.{IsSlot, LeadsIn}
use Rattle.psac_traced.specs.Holds.{EachRead}
use Rattle.psac_record.specs.Kept.{Kept, E, A, W, S, P, R, bare}
use Rattle.psac_trace.specs.Rights.{Sees}
use Rattle.psac_trace.specs.Raising.{puts}
use Rattle.psac_repair.specs.Divided.{writes_slot}
use Rattle.psac_repair.specs.Marks.{Present, IsMarked}
use Rattle.psac_repair.specs.Counted.{done}

-- each read of the record is of what is present
abbrev pub AllPresent : ValueView → Kept → Type 0
AllPresent v k = EachRead (Present v) (bare k)

-- what the record read of what it made or wrote itself is present
abbrev pub Coherent : ValueView → Kept → Type 0
Coherent v k = EachRead (λ m x. writes_slot (bare k) m.slot ≡ true → Present v m x) (bare k)

-- each marked node stands over a block that read other words than are present
abbrev pub Founded : ValueView → MarksView → Kept → Type 0
Founded v m E = Unit {0}
Founded v m (A h r) = Founded v m r
Founded v m (W h x r) = Founded v m r
Founded v m (S n t r) = (IsMarked m n → AllPresent v (S n t r) → ⊥) × Founded v m t × Founded v m r
Founded v m (P n l r) = (IsMarked m n → AllPresent v (P n l r) → ⊥) × Founded v m l × Founded v m r
Founded v m (R b t) = (IsMarked m b.node → AllPresent v (R b t) → ⊥) × Founded v m t

-- the modifiable was written by the record, and the pass knows another value of it
abbrev pub Altered : ValueView → Kept → Handle → Type 0
Altered v k h = (x : Plain) × Member (h, x) (puts k) × (y : Value Handle) × Sees v h y × (value_of x ≢ y)

-- of the nodes us, the live readers of the modifiable in the slot lead up by nodes of ns
abbrev pub LeadOut : ReadersView → MarksView → List ℕ → List ℕ → ℕ → Type 0
LeadOut r m us ns s = (l : LinkView) (h : Handle) → Member l r.links → l.of ≡ s → l.stage ≡ In → l.node ≡ Some
    (word_of h) → IsSlot h.slot → Member h.slot us → LeadsIn m ns h.slot

-- of the nodes us, what is marked anew stands wherever the live readers of what the record wrote and has another value lead up
abbrev pub OnlyWoken : ReadersView → MarksView → ValueView → MarksView → List ℕ → Kept → Type 0
OnlyWoken r m u n us k =
    (ns : List ℕ) → ((y : ℕ) → Member y ns → Member y us) → ((h : Handle) → Altered u k h → LeadOut r m us ns h.slot)
    → (y : ℕ) → Member y us → times y m.marked < times y n.marked → Member y ns

-- where nothing of the record ran again, each of its reads was of what was present
abbrev pub Idle : ValueView → Kept → Kept → Type 0
Idle v k new = (done k new).rerun ≡ 0 → AllPresent v k
