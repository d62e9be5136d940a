-- What holds of a pass between two calls, beside what its values need.
use Rattle.std.specs.Prelude.{◌≡◌, ℕ, ◌+◌, ◌≤◌, ◌<◌, ◌==◌, ◌||◌, List, [], ◌∷◌, length, Bool, false, Option, Some, IfSome}
use Rattle.psac_ops.specs.declared.plain.Handle.{Handle}
use Rattle.psac_slots.specs.Handles.{Member}
use Rattle.psac_slots.specs.Claiming.{times}
use Rattle.psac_values.specs.declared.view.KnownView.{KnownView}
use Rattle.psac_values.specs.declared.view.ValueView.{ValueView}
use Rattle.psac_values.specs.Knowing.{Has as MayWrite}
use Rattle.psac_readers.specs.declared.view.SharedView.{SharedView as SetView}
use Rattle.psac_readers.specs.declared.view.ReadersView.{ReadersView}
use Rattle.psac_readers.specs.Steps as readers
use Rattle.psac_marks.specs.declared.view.OwnView.{OwnView}
use Rattle.psac_marks.specs.declared.view.SharedView.{SharedView as NodeView}
use Rattle.psac_marks.specs.declared.view.MarksView.{MarksView}
use Rattle.psac_marks.specs.Marked.{places, HasOwn}
use Rattle.psac_marks.specs.Marked as marks_rule
use Rattle.psac_marks.specs.Passes.{Keeps, IsKept, IsDropped}
use Rattle.psac_fork.specs.declared.tables.Pass.{Pass}

-- the pass may enter the set of the modifiable in this slot
abbrev pub AtHand : ℕ → ReadersView → Type 0
AtHand s r = (s < r.mods) × readers.Has s r

-- the set of each modifiable that the pass may write or knows is at hand, and so is that of each that a claim gives. A set is
-- shared at least from the fork on at which its modifiable's words are
pub record SetsReady (v : ValueView) (r : ReadersView) : Type 0 where
  pub mine : (m : Handle) → MayWrite v m → AtHand m.slot r
  pub known : (e : KnownView) → Member e v.known → (e.of.slot < r.mods) × ((f : SetView) × Member f r.shared × (f.of ≡ e.of.slot) × (length f.label ≤ length e.label))
  pub spare : (h : Handle) → Member h v.claims.list → AtHand (v.fixed + h.slot) r
  pub labels : (f : SetView) → Member f r.shared → length f.label < length r.claims.branch

-- the pass has the parent of each own node that is kept, and that is kept too; what is dropped is its own, and not shared
pub record Rooted (v : MarksView) : Type 0 where
  pub kept : (c : OwnView) (p : ℕ) → Member c v.own → IsKept v c.node.slot → c.parent ≡ Some p → IsKept v p × marks_rule.Has (places v) p
  pub dropped : (x : ℕ) → IsDropped v x → HasOwn v.own x
  pub shared : (e : NodeView) → Member e v.shared → IsKept v e.node.slot
  pub labels : (e : NodeView) → Member e v.shared → length e.label < length v.claims.branch

pub record Fit (p : Pass) : Type 0 where
  pub sets : SetsReady p.values.knows p.readers.knows
  pub nodes : Rooted p.marks.knows

-- the node below which a run makes its own is one that the pass has, and isn't dropped
abbrev pub ParentKept : Option Handle → MarksView → Type 0
ParentKept par v = IfSome par (λ h. Keeps v h)

-- the division at a par

-- both sides have each node that isn't dropped
abbrev pub both_have : MarksView → ℕ → Bool
both_have v x = times x v.dropped == 0

-- the slot is one that a claim may give
abbrev pub is_spare : ℕ → List Handle → ℕ → Bool
is_spare fixed [] s = false
is_spare fixed (h ∷ hs) s = (fixed + h.slot == s) || is_spare fixed hs s
