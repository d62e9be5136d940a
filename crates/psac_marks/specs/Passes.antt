-- What a pass carries, what each call needs of its nodes, and what it makes of them.
use Rattle.std.specs.Prelude.{◌≡◌, ◌⊎◌, ℕ, suc, ◌+◌, ◌*◌, ◌<◌, ◌≤◌, List, [], ◌∷◌, ◌++◌, map, length, Bool, true, false, Option, Some, None}
use Rattle.psac_ops.specs.declared.plain.Handle.{Handle}
use Rattle.psac_slots.specs.Handles.{Member}
use Rattle.psac_slots.specs.Claiming as claiming
use Rattle.psac_slots.specs.Claiming.{times}
use Rattle.psac_marks.specs.declared.view.OwnView.{OwnView}
use Rattle.psac_marks.specs.declared.view.StateView.{StateView}
use Rattle.psac_marks.specs.declared.view.MarksView.{MarksView}
use Rattle.psac_marks.specs.Marked.{Place, places, Has, handle_of, out_word}
use Rattle.psac_marks.specs.Steps.{Lacks, raised}

-- what a pass carries, beside its view
pub record Carries (nodes head room words : ℕ) (v : MarksView) : Type 0 where
  pub live : v.claims.live ≡ true
  pub nodes_is : v.claims.count ≡ nodes
  pub head_is : v.claims.head ≡ head
  pub room_is : length v.claims.list ≡ room
  pub room_fits : room ≤ nodes
  pub head_fits : head ≤ nodes
  pub words_is : suc (nodes + 3 * nodes) ≡ words
  pub small : nodes < 4294967296
  pub climb : v.climb ≡ None
  -- each claimed slot is out
  pub out : (t : StateView) → Member t v.states → (t.word ≡ out_word t.of) × (t.of.slot < nodes)
  pub held_is : map handle_of v.states ≡ v.claims.held
  pub low : (e : Place) → Member e (places v) → e.node.slot < nodes

-- the pass alone has the node
abbrev pub Owns : MarksView → Handle → Type 0
Owns v h = (o : OwnView) × Member o v.own × (o.node ≡ h)

abbrev pub IsDropped : MarksView → ℕ → Type 0
IsDropped v x = 0 < times x v.dropped

abbrev pub IsKept : MarksView → ℕ → Type 0
IsKept v x = times x v.dropped ≡ 0

-- the pass has the node, and it isn't dropped
abbrev pub Keeps : MarksView → Handle → Type 0
Keeps v h = (e : Place) × Member e (places v) × (e.node ≡ h) × IsKept v h.slot

-- the pass knows that the node is marked
abbrev pub IsBusy : MarksView → ℕ → Type 0
IsBusy v x = (0 < times x v.marked) ⊎ (0 < times x v.busy)

-- these nodes, which the pass has and none of which is dropped, lead up from x to a root, or to one that is known to be marked
abbrev pub Leads : MarksView → ℕ → List Place → Type 0
Leads v x [] = ⊥
Leads v x (e ∷ es) = (e.node.slot ≡ x) × Member e (places v) × IsKept v x × ((e.parent ≡ None) ⊎ (IsBusy v x ⊎ ((p : ℕ) × (e.parent ≡ Some p) × Leads v p es)))

-- from x on these nodes, each the parent of the one before and none known to be marked, are marked anew, and then comes one that was marked, or none above a root. That is
-- so along each place that the pass has of a node
abbrev pub Rises : MarksView → ℕ → List ℕ → Option ℕ → Type 0
Rises v x [] end = end ≡ Some x
Rises v x (y ∷ ys) end = (y ≡ x) × (IsBusy v x → ⊥) × Has (places v) x × ((e : Place) → Member e (places v) → e.node.slot ≡ x → ((e.parent ≡ None) × (ys ≡ []) × (end ≡ None)) ⊎ ((p : ℕ) × (e.parent ≡ Some p) × Rises v p ys end))

abbrev pub one_of : Option ℕ → List ℕ
one_of None = []
one_of (Some x) = x ∷ []

-- what a raise makes of a view: these nodes are marked, and this one was
abbrev pub climbed : List ℕ → Option ℕ → MarksView → MarksView
climbed xs end v = record v { marked = v.marked ++ xs; busy = v.busy ++ one_of end }

-- a pass that climbs goes on to the parent of the node from which it climbs
abbrev pub MayRaise : MarksView → ℕ → Type 0
MayRaise v x = (y : ℕ) → v.climb ≡ Some y → (e : Place) × Member e (places v) × (e.node.slot ≡ y) × (e.parent ≡ Some x)

-- one node of a climb: it was marked, or it is from here on and the climb goes on to its parent
abbrev pub RaisedOne : MarksView → Place → Option ℕ → MarksView → Type 0
RaisedOne v e next w = ((next ≡ None) × (w ≡ raised e.node.slot e.parent 1 v)) ⊎ ((next ≡ e.parent) × (IsBusy v e.node.slot → ⊥) × (w ≡ raised e.node.slot e.parent 0 v))

-- no child of the node is marked, but for dropped ones
abbrev pub Bare : MarksView → ℕ → Type 0
Bare v x = (o : OwnView) → Member o v.own → o.parent ≡ Some x → IsKept v o.node.slot → times o.node.slot v.marked ≡ 0

-- each child of the node that is out is dropped
abbrev pub Childless : MarksView → ℕ → Type 0
Childless v x = (o : OwnView) → Member o v.own → o.parent ≡ Some x → IsDropped v o.node.slot

-- a division sends a node together with its own children but for dropped ones, and shares no dropped node
pub record Parted (shared to_right : ℕ → Bool) (v : MarksView) : Type 0 where
  pub families : (o c : OwnView) → Member o v.own → Member c v.own → c.parent ≡ Some o.node.slot → IsKept v c.node.slot → shared o.node.slot ≡ false → (shared c.node.slot ≡ false) × (to_right c.node.slot ≡ to_right o.node.slot)
  pub dropped : (x : ℕ) → IsDropped v x → shared x ≡ false

-- the slot of a parent, if there is one
abbrev pub slot_of : Option Handle → Option ℕ
slot_of None = None
slot_of (Some h) = Some h.slot

-- a claim draws the index n, and its node h is out, below this parent
abbrev pub took : MarksView → ℕ → Handle → Option ℕ → MarksView
took v n h par = record v { claims = claiming.drew v.claims n; own = record { node = h; parent = par } ∷ v.own; states = v.states ++ record { of = h; word = out_word h } ∷ [] }

pub record Claims (v : MarksView) (h : Handle) (par : Option ℕ) (w : MarksView) : Type 0 where
  pub index : ℕ
  pub low : index < length v.claims.list
  pub entry : claiming.entry v.claims.list index ≡ h ∷ []
  pub becomes : w ≡ took v index h par

-- two passes, and what they are together: what one owns the other lacks, and what one owns or has both together own or have
pub record United (l r j : MarksView) : Type 0 where
  pub left_alone : (o : OwnView) → Member o l.own → Lacks r o.node.slot
  pub right_alone : (o : OwnView) → Member o r.own → Lacks l o.node.slot
  pub owns : (h : Handle) → Owns l h ⊎ Owns r h → Owns j h
  pub has : (x : ℕ) → Has (places l) x ⊎ Has (places r) x → Has (places j) x
