-- What the rule of marks gives, in plain sentences.
use Rattle.std.specs.Prelude.{◌≡◌, ◌≢◌, ◌⊎◌, ℕ, ◌<◌, ◌≤◌, List, [], map, drop, length, true, Some, None, sum_by}
use mathlib.Core.Option.{some}
use lib.ListN.{get_elem?}
use Rattle.psac_ops.specs.declared.plain.Handle.{Handle}
use Rattle.psac_slots.specs.Branches.{is_prefix}
use Rattle.psac_slots.specs.Handles.{Member, slot_times}
use Rattle.psac_slots.specs.Promised as slots
use Rattle.psac_slots.specs.Claiming.{times}
use Rattle.psac_marks.specs.declared.view.OwnView.{OwnView}
use Rattle.psac_marks.specs.declared.view.SharedView.{SharedView}
use Rattle.psac_marks.specs.declared.view.MarksView.{MarksView}
use Rattle.psac_marks.specs.Marked.{mark_at, parent_at, parent_word, claims_of, Place, places, Has, HasOwn}
use Rattle.psac_marks.specs.Steps.{Lacks}
use Rattle.psac_marks.specs.Passes.{IsKept}

-- how many passes have the node's mark
abbrev pub holders : ℕ → List MarksView → ℕ
holders x views = sum_by (λ (v : MarksView). times x v.marked) views

pub record Promised (nodes : ℕ) (words : List ℕ) (views : List MarksView) : Type 0 where
  -- what the rule of claims gives
  pub claims : slots.Promised words (map claims_of views)
  -- a node that is still to be drawn no pass has
  pub free_lacked : (i : ℕ) (v : MarksView) (x : ℕ) → get_elem? views i ≡ some v → 0 < slot_times x (drop claims.counter claims.list) → Lacks v x
  -- what is out some pass has
  pub placed : (i : ℕ) (v : MarksView) (h : Handle) → get_elem? views i ≡ some v → Member h v.claims.held → (j : ℕ) × (u : MarksView) × (get_elem? views j ≡ some u) × Has (places u) h.slot
  -- a node that one pass owns is no other's, and shared with none
  pub one_owner : (i j : ℕ) (v u : MarksView) (o c : OwnView) → get_elem? views i ≡ some v → get_elem? views j ≡ some u → i ≢ j → Member o v.own → Member c u.own → c.node.slot ≢ o.node.slot
  pub own_unshared : (i j : ℕ) (v u : MarksView) (o : OwnView) (e : SharedView) → get_elem? views i ≡ some v → get_elem? views j ≡ some u → Member o v.own → Member e u.shared → e.node.slot ≢ o.node.slot
  -- its children, but for dropped ones, are the same pass's own
  pub children : (i j : ℕ) (v u : MarksView) (o : OwnView) (e : Place) → get_elem? views i ≡ some v → get_elem? views j ≡ some u → Member o v.own → Member e (places u) → e.parent ≡ Some o.node.slot → IsKept u e.node.slot → (i ≡ j) × HasOwn u.own e.node.slot
  -- a shared node has one label, a proper prefix of the branch of each pass that has it, and each live pass below has the node
  pub labels : (i : ℕ) (v : MarksView) (e : SharedView) → get_elem? views i ≡ some v → Member e v.shared → (is_prefix e.label v.claims.branch ≡ true) × (length e.label < length v.claims.branch)
  pub one_label : (i j : ℕ) (v u : MarksView) (e f : SharedView) → get_elem? views i ≡ some v → get_elem? views j ≡ some u → Member e v.shared → Member f u.shared → e.node.slot ≡ f.node.slot → e ≡ f
  pub below : (i j : ℕ) (v u : MarksView) (e : SharedView) → get_elem? views i ≡ some v → get_elem? views j ≡ some u → i ≢ j → Member e v.shared → u.claims.live ≡ true → is_prefix e.label u.claims.branch ≡ true → Member e u.shared
  -- the parents that the views give stand in the table
  pub parents_stand : (i : ℕ) (v : MarksView) (e : Place) → get_elem? views i ≡ some v → Member e (places v) → get_elem? words (parent_at nodes e.node.slot) ≡ some (parent_word e.parent)
  -- a node's mark is 1 where a pass has it, and else 0
  pub mark_word : (x : ℕ) → x < nodes → get_elem? words (mark_at nodes x) ≡ some (holders x views)
  pub one_holder : (x : ℕ) → holders x views ≤ 1
  -- of an own node it is its owner that has the mark
  pub own_mark : (i : ℕ) (v : MarksView) (o : OwnView) → get_elem? views i ≡ some v → Member o v.own → holders o.node.slot views ≡ times o.node.slot v.marked
  -- a busy node is marked
  pub busy : (i : ℕ) (v : MarksView) (x : ℕ) → get_elem? views i ≡ some v → 0 < times x v.busy → 0 < holders x views
  -- what a pass has marked, or knows to be marked, or climbs from, it has, and what it dropped it owns
  pub had : (i : ℕ) (v : MarksView) (x : ℕ) → get_elem? views i ≡ some v → (0 < times x v.marked) ⊎ ((0 < times x v.busy) ⊎ (v.climb ≡ Some x)) → Has (places v) x
  pub dropped_own : (i : ℕ) (v : MarksView) (x : ℕ) → get_elem? views i ≡ some v → 0 < times x v.dropped → HasOwn v.own x
  -- a marked node that isn't dropped is a root, or its parent is marked, or a pass climbs from it
  pub closed : (i : ℕ) (v : MarksView) (e : Place) → get_elem? views i ≡ some v → Member e (places v) → IsKept v e.node.slot → 0 < holders e.node.slot views → (e.parent ≡ None) ⊎ (((p : ℕ) × (e.parent ≡ Some p) × (0 < holders p views)) ⊎ ((j : ℕ) × (u : MarksView) × (get_elem? views j ≡ some u) × (u.climb ≡ Some e.node.slot)))
  -- and where one pass is the only one, and has no climb open, its marked nodes are closed upwards
  pub closed_alone : (i : ℕ) (v : MarksView) (e : Place) → get_elem? views i ≡ some v → v.claims.live ≡ true → v.claims.branch ≡ [] → v.climb ≡ None → Member e (places v) → IsKept v e.node.slot → 0 < times e.node.slot v.marked → (e.parent ≡ None) ⊎ ((p : ℕ) × (e.parent ≡ Some p) × (0 < times p v.marked))
