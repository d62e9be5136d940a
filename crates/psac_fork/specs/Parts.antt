-- What the two sides of a tree have, and how a fork divides a pass between them.
use Rattle.std.specs.Prelude.{◌≡◌, ℕ, List, [], ◌∷◌, Bool, true, false, not, ◌&&◌, cond, ◌==◌, Some}
use Rattle.psac_ops.specs.declared.plain.Handle.{Handle}
use Rattle.psac_slots.specs.Handles.{Member}
use Rattle.psac_readers.specs.declared.readers.Link.{Link}
use Rattle.psac_marks.specs.declared.view.OwnView.{OwnView}
use Rattle.psac_marks.specs.declared.view.MarksView.{MarksView}
use Rattle.psac_marks.specs.Passes.{IsKept, IsDropped}

-- a handle of the slot is in the list
abbrev pub lists : List Handle → ℕ → Bool
lists [] x = false
lists (h ∷ hs) x = cond (h.slot == x) true (lists hs x)

abbrev pub lists_link : List Link → ℕ → Bool
lists_link [] x = false
lists_link (l ∷ ls) x = cond (l.index == x) true (lists_link ls x)

abbrev pub neither : List Handle → List Handle → ℕ → Bool
neither left right x = not (lists left x) && not (lists right x)

-- with a node its own children are in the list, but for dropped ones
abbrev pub HasFamilies : List Handle → MarksView → Type 0
HasFamilies hs v = (o c : OwnView) → Member o v.own → Member c v.own → c.parent ≡ Some o.node.slot → IsKept v c.node.slot → lists hs o.node.slot ≡ true → lists hs c.node.slot ≡ true

-- the nodes of both sides: none is on both, families stay together, and what is dropped is on a side
pub record AreParts (left right : List Handle) (v : MarksView) : Type 0 where
  pub apart : (x : ℕ) → lists left x ≡ true → lists right x ≡ false
  pub left_families : HasFamilies left v
  pub right_families : HasFamilies right v
  pub dropped : (x : ℕ) → IsDropped v x → neither left right x ≡ false
