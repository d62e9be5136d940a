-- The rule of a table of marks.
use Rattle.std.specs.Prelude.{◌≡◌, ◌⊎◌, ℕ, suc, ◌+◌, ◌*◌, ◌<◌, ◌≤◌, List, map, ◌++◌, length, Bool, true, Option, Some, None, sum_by, IfSome}
use mathlib.Core.Option.{some}
use lib.ListN.{get_elem?}
use Rattle.psac_ops.specs.declared.plain.Handle.{Handle}
use Rattle.psac_slots.specs.Branches.{is_prefix}
use Rattle.psac_slots.specs.Handles.{Member, slot_times}
use Rattle.psac_slots.specs.Divided.{Ways, Rights, Divided, Met}
use Rattle.psac_slots.specs.declared.view.ClaimView.{ClaimView}
use Rattle.psac_slots.specs.Claiming as claiming
use Rattle.psac_slots.specs.Claiming.{times}
use Rattle.psac_marks.specs.declared.view.OwnView.{OwnView}
use Rattle.psac_marks.specs.declared.view.SharedView.{SharedView}
use Rattle.psac_marks.specs.declared.view.StateView.{StateView}
use Rattle.psac_marks.specs.declared.view.MetView.{MetView}
use Rattle.psac_marks.specs.declared.view.MarksView.{MarksView}

-- word 0 is the counter, then come the ring, and for each node its mark, its parent and its state
abbrev pub mark_at : ℕ → ℕ → ℕ
mark_at nodes x = suc (nodes + 3 * x)

abbrev pub parent_at : ℕ → ℕ → ℕ
parent_at nodes x = suc (suc (nodes + 3 * x))

abbrev pub state_at : ℕ → ℕ → ℕ
state_at nodes x = suc (suc (suc (nodes + 3 * x)))

abbrev pub parent_word : Option ℕ → ℕ
parent_word None = 0
parent_word (Some p) = suc p

abbrev pub free_word : Handle → ℕ
free_word h = 2 * h.generation

abbrev pub out_word : Handle → ℕ
out_word h = suc (2 * h.generation)

-- a node that a pass has, with the branch below which it is known: the pass's own, or the label
pub record Place : Type 0 where
  pub node : Handle
  pub parent : Option ℕ
  pub domain : List Bool

abbrev pub own_place : List Bool → OwnView → Place
own_place b o = record { node = o.node; parent = o.parent; domain = b }

abbrev pub shared_place : SharedView → Place
shared_place e = record { node = e.node; parent = e.parent; domain = e.label }

abbrev pub places : MarksView → List Place
places v = map (own_place v.claims.branch) v.own ++ map shared_place v.shared

abbrev pub claims_of : MarksView → ClaimView
claims_of v = v.claims

abbrev pub handle_of : StateView → Handle
handle_of t = t.of

-- a node is lent to both sides of a fork with the branch as its label
abbrev pub ways : Ways OwnView SharedView
ways = record {
  slot = λ o. o.node.slot;
  of = λ e. e.node.slot;
  label = λ e. e.label;
  lend = λ b o. record { node = o.node; parent = o.parent; label = b };
  back = λ e. record { node = e.node; parent = e.parent };
  lent_of = λ b o i. o.node.slot;
  lent_label = λ b o i. b;
  back_slot = λ e i. e.node.slot;
}

abbrev pub rights_of : MarksView → Rights OwnView SharedView
rights_of v = record { live = v.claims.live; branch = v.claims.branch; alone = v.own; shared = v.shared }

-- what two passes had when they were joined
abbrev pub Meeting : MetView → Type 0
Meeting m = Met ways m.left m.right m.shared_left m.shared_right

-- what a pass has of the tree
pub record Grown : Type 0 where
  pub own : List OwnView
  pub places : List Place
  pub dropped : List ℕ
  pub held : List Handle

abbrev pub tree_of : MarksView → Grown
tree_of v = record { own = v.own; places = places v; dropped = v.dropped; held = v.claims.held }

-- what a pass has of the marks
pub record Raising : Type 0 where
  pub places : List Place
  pub dropped : List ℕ
  pub marked : List ℕ
  pub busy : List ℕ
  pub climb : Option ℕ

abbrev pub marks_of : MarksView → Raising
marks_of v = record { places = places v; dropped = v.dropped; marked = v.marked; busy = v.busy; climb = v.climb }

-- what a pass has of the states
pub record Stating : Type 0 where
  pub states : List StateView
  pub held : List Handle

abbrev pub states_of : MarksView → Stating
states_of v = record { states = v.states; held = v.claims.held }

-- a place of the node
abbrev pub Has : List Place → ℕ → Type 0
Has ps x = (e : Place) × Member e ps × (e.node.slot ≡ x)

-- the node is one of a pass's own
abbrev pub HasOwn : List OwnView → ℕ → Type 0
HasOwn os x = (o : OwnView) × Member o os × (o.node.slot ≡ x)

-- the slot is claimed with this generation
abbrev pub Out : List Grown → Handle → Type 0
Out all h = (j : ℕ) × (g : Grown) × (get_elem? all j ≡ some g) × Member h g.held

-- how often a slot is held, by all passes
abbrev pub held_times : ℕ → List Grown → ℕ
held_times x all = sum_by (λ (g : Grown). slot_times x g.held) all

-- the tree: parents stand in the table, and nodes that aren't dropped lie below the branches of their parents
pub record Tree (nodes : ℕ) (parent : ℕ → Option ℕ) (words : List ℕ) (all : List Grown) : Type 0 where
  pub hung : (x : ℕ) → x < nodes → get_elem? words (parent_at nodes x) ≡ some (parent_word (parent x))
  -- a free node is a root
  pub free : (x : ℕ) → held_times x all ≡ 0 → parent x ≡ None
  pub parents : (i : ℕ) (g : Grown) (e : Place) → get_elem? all i ≡ some g → Member e g.places → parent e.node.slot ≡ e.parent
  pub out : (i : ℕ) (g : Grown) (e : Place) → get_elem? all i ≡ some g → Member e g.places → Out all e.node
  -- and what is out some pass has
  pub had : (x : ℕ) → 0 < held_times x all → (j : ℕ) × (g : Grown) × (get_elem? all j ≡ some g) × Has g.places x
  pub dropped : (i : ℕ) (g : Grown) (x : ℕ) → get_elem? all i ≡ some g → 0 < times x g.dropped → HasOwn g.own x
  -- the parent of a node that isn't dropped is out
  pub above : (i : ℕ) (g : Grown) (e : Place) (p : ℕ) → get_elem? all i ≡ some g → Member e g.places → times e.node.slot g.dropped ≡ 0 → e.parent ≡ Some p → 0 < held_times p all
  pub nested : (i j : ℕ) (g f : Grown) (e o : Place) → get_elem? all i ≡ some g → get_elem? all j ≡ some f → Member e g.places → Member o f.places → times e.node.slot g.dropped ≡ 0 → e.parent ≡ Some o.node.slot → is_prefix o.domain e.domain ≡ true

-- how many passes have the node's mark
abbrev pub marks : ℕ → List Raising → ℕ
marks x all = sum_by (λ (r : Raising). times x r.marked) all

-- the node is a root, or its parent is marked, or a pass climbs from it
abbrev pub Supported : List Raising → Place → Type 0
Supported all e = (e.parent ≡ None) ⊎ (((p : ℕ) × (e.parent ≡ Some p) × (0 < marks p all)) ⊎ ((j : ℕ) × (r : Raising) × (get_elem? all j ≡ some r) × (r.climb ≡ Some e.node.slot)))

-- the marks: each word counts those who have the mark, and a mark is supported from above
pub record Climbing (nodes : ℕ) (words : List ℕ) (all : List Raising) : Type 0 where
  pub stored : (x : ℕ) → x < nodes → get_elem? words (mark_at nodes x) ≡ some (marks x all)
  pub once : (x : ℕ) → marks x all ≤ 1
  pub marked : (i : ℕ) (r : Raising) (x : ℕ) → get_elem? all i ≡ some r → 0 < times x r.marked → Has r.places x
  pub busy : (i : ℕ) (r : Raising) (x : ℕ) → get_elem? all i ≡ some r → 0 < times x r.busy → Has r.places x × (0 < marks x all)
  pub climb : (i : ℕ) (r : Raising) (x : ℕ) → get_elem? all i ≡ some r → r.climb ≡ Some x → Has r.places x
  pub supported : (i : ℕ) (r : Raising) (e : Place) → get_elem? all i ≡ some r → Member e r.places → times e.node.slot r.dropped ≡ 0 → 0 < marks e.node.slot all → Supported all e

pub record IsStated (nodes : ℕ) (words : List ℕ) (t : StateView) : Type 0 where
  pub low : t.of.slot < nodes
  pub stands : get_elem? words (state_at nodes t.of.slot) ≡ some t.word

-- the states: those of held slots are known, and those of slots that are still to be drawn say so
pub record AreStated (nodes counter : ℕ) (list : List Handle) (words : List ℕ) (all : List Stating) : Type 0 where
  pub known : (i : ℕ) (s : Stating) (t : StateView) → get_elem? all i ≡ some s → Member t s.states → IsStated nodes words t
  pub held_is : (i : ℕ) (s : Stating) → get_elem? all i ≡ some s → map handle_of s.states ≡ s.held
  pub free : (k : ℕ) (x : Handle) → counter ≤ k → get_elem? list k ≡ some x → get_elem? words (state_at nodes x.slot) ≡ some (free_word x)

-- the rule of a table of marks
pub record Marked (nodes : ℕ) (words : List ℕ) (views : List MarksView) : Type 0 where
  pub counter : ℕ
  pub head : ℕ
  pub list : List Handle
  pub parent : ℕ → Option ℕ
  pub long : nodes + 3 * nodes < length words
  pub claims : claiming.Claimed nodes counter head list words (map claims_of views)
  pub rights : Divided ways (map rights_of views)
  pub tree : Tree nodes parent words (map tree_of views)
  pub climbs : Climbing nodes words (map marks_of views)
  pub states : AreStated nodes counter list words (map states_of views)
  pub met : (i : ℕ) (v : MarksView) → get_elem? views i ≡ some v → IfSome v.met Meeting
