-- What the readers of a modifiable need so that all can be raised, and what is so of them then.
use Rattle.std.specs.Prelude.{◌≡◌, ℕ, suc, ◌<◌, List, ◌++◌, length, Option, Some}
use Rattle.psac_ops.specs.declared.plain.Handle.{Handle}
use Rattle.psac_slots.specs.Handles.{Member, word_of}
use Rattle.psac_readers.specs.declared.view.Stage.TheVariants.{In}
use Rattle.psac_readers.specs.declared.view.LinkView.{LinkView}
use Rattle.psac_readers.specs.declared.view.ReadersView.{ReadersView}
use Rattle.psac_readers.specs.declared.readers.Link.{Link}
use Rattle.psac_readers.specs.Steps.{behind}
use Rattle.psac_marks.specs.declared.view.MarksView.{MarksView}
use Rattle.psac_marks.specs.Marked.{Place}
use Rattle.psac_marks.specs.Passes.{IsBusy, Leads}

-- only there does the word of a handle tell its slot
abbrev pub IsSlot : ℕ → Type 0
IsSlot x = x < 4294967296

-- nodes in these slots lead up from the node
abbrev pub LeadsIn : MarksView → List ℕ → ℕ → Type 0
LeadsIn n us x = (path : List Place) × Leads n x path × ((e : Place) → Member e path → Member e.node.slot us)

-- each live reader of the modifiable in the slot leads up
abbrev pub LeadUp : ReadersView → MarksView → ℕ → Type 0
LeadUp r n s = (k : LinkView) → Member k r.links → k.of ≡ s → k.stage ≡ In → (h : Handle) × IsSlot h.slot × (k.node ≡ Some (word_of h)) × ((path : List Place) × Leads n h.slot path)

-- within these slots
abbrev pub LeadUpIn : ReadersView → MarksView → List ℕ → ℕ → Type 0
LeadUpIn r n us s = (k : LinkView) → Member k r.links → k.of ≡ s → k.stage ≡ In → (h : Handle) × IsSlot h.slot × (k.node ≡ Some (word_of h)) × LeadsIn n us h.slot

-- nodes are marked, and some are known to be marked; nothing else has changed
abbrev pub with_marks : List ℕ → List ℕ → MarksView → MarksView
with_marks xs ys n = record n { marked = n.marked ++ xs; busy = n.busy ++ ys }

-- each live reader of the modifiable in the slot is known to be marked; what is marked anew stands on their paths
pub record Raised (r : ReadersView) (s : ℕ) (n n' : MarksView) : Type 0 where
  pub marks : List ℕ
  pub found : List ℕ
  pub becomes : n' ≡ with_marks marks found n
  pub within : (us : List ℕ) → LeadUpIn r n us s → (x : ℕ) → Member x marks → Member x us
  pub warned : (k : LinkView) (h : Handle) → Member k r.links → k.of ≡ s → k.stage ≡ In → k.node ≡ Some (word_of h) → IsSlot h.slot → IsBusy n' h.slot

-- how many links of a chain come from here on, at most
abbrev pub left_of : Option (List ℕ) → Option Link → ℕ
left_of (Some chain) (Some link) = suc (length (behind link.index chain))
left_of _ _ = 0
