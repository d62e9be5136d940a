-- What each step makes of a view, and what it tells.
use Rattle.std.specs.Prelude.{◌≡◌, ◌≢◌, ◌⊎◌, ℕ, zero, suc, ◌+◌, ◌*◌, ◌<◌, List, [], ◌∷◌, ◌++◌, map, filter, Bool, cond, not, ltb, ◌&&◌, ◌==◌, Option, Some, None, IfSome}
use mathlib.Core.Option.{some}
use lib.ListN.{get_elem?}
use Rattle.atomic_table.specs.Table.{Step, Me}
use Rattle.psac_ops.specs.declared.plain.Handle.{Handle}
use Rattle.psac_slots.specs.Handles.{Member, word_of, fresh, IsHandle, later, IsDistinct, slot_times}
use Rattle.psac_slots.specs.Given.{by_slot}
use Rattle.psac_slots.specs.Branches.{stem}
use Rattle.psac_slots.specs.Divided.{stays, goes, lends, above, comes_back}
use Rattle.psac_slots.specs.Claiming as claiming
use Rattle.psac_slots.specs.Claiming.{times}
use Rattle.psac_marks.specs.declared.view.OwnView.{OwnView}
use Rattle.psac_marks.specs.declared.view.SharedView.{SharedView}
use Rattle.psac_marks.specs.declared.view.StateView.{StateView}
use Rattle.psac_marks.specs.declared.view.MarksView.{MarksView}
use Rattle.psac_marks.specs.Marked.{mark_at, parent_at, state_at, parent_word, free_word, Place, places, handle_of, ways, HasOwn, Meeting}

abbrev pub Seat : Type 0
Seat = Me (Unit {0}) MarksView

abbrev pub first_view : ℕ → MarksView
first_view nodes = record { claims = claiming.first_view nodes; own = []; shared = []; marked = []; busy = []; climb = None; dropped = []; states = []; asks = 0; met = None }

abbrev pub spent : MarksView
spent = record { claims = claiming.spent; own = []; shared = []; marked = []; busy = []; climb = None; dropped = []; states = []; asks = 0; met = None }

-- the words of a free node: no mark, no parent, generation 1
abbrev pub blank : ℕ → List ℕ
blank zero = []
blank (suc n) = blank n ++ (0 ∷ 0 ∷ 2 ∷ [])

-- the counter, the ring of free slots, and the words of each node
abbrev pub first_words : ℕ → ℕ → List ℕ
first_words nodes n = 0 ∷ (map word_of (fresh nodes) ++ blank n)

-- a claimed node, which is a root as yet
abbrev pub new_own : Handle → OwnView
new_own h = record { node = h; parent = None }

abbrev pub new_state : Handle → StateView
new_state h = record { of = h; word = free_word h }

abbrev pub drew : MarksView → ℕ → MarksView
drew v n = record v { claims = claiming.drew v.claims n; own = map new_own (claiming.entry v.claims.list n) ++ v.own; states = v.states ++ map new_state (claiming.entry v.claims.list n) }

-- the pass doesn't have the node
abbrev pub Lacks : MarksView → ℕ → Type 0
Lacks v x = (e : Place) → Member e (places v) → e.node.slot ≢ x

pub record Drew (s : Step (Unit {0})) (v : Seat) (n : ℕ) (w : Seat) : Type 0 where
  pub drawn : w ≡ (drew v.0 n, v.1)
  pub new : (h : Handle) → Member h (claiming.entry v.0.claims.list n) → Lacks v.0 h.slot
  pub unmarked : (h : Handle) → Member h (claiming.entry v.0.claims.list n) → times h.slot v.0.marked ≡ 0
  pub kept : (h : Handle) → Member h (claiming.entry v.0.claims.list n) → times h.slot v.0.dropped ≡ 0
  pub low : (h : Handle) → Member h (claiming.entry v.0.claims.list n) → h.slot < v.0.claims.count

-- what a sole pass has is out, and it owns what is out, what it marked, what it knows to be marked and what it dropped
pub record Holds (v : MarksView) : Type 0 where
  pub once : IsDistinct v.claims.held
  pub out : (o : OwnView) → Member o v.own → Member o.node v.claims.held
  pub owned : (h : Handle) → Member h v.claims.held → (o : OwnView) × Member o v.own × (o.node ≡ h)
  pub marked : (x : ℕ) → 0 < times x v.marked → HasOwn v.own x
  pub busy : (x : ℕ) → 0 < times x v.busy → HasOwn v.own x
  pub dropped : (x : ℕ) → 0 < times x v.dropped → HasOwn v.own x

-- of the pass's own nodes, the parent of a marked one that isn't dropped is marked, and what is known to be marked is
pub record IsClosed (v : MarksView) : Type 0 where
  pub upwards : (o c : OwnView) → Member o v.own → Member c v.own → c.parent ≡ Some o.node.slot → times c.node.slot v.dropped ≡ 0 → 0 < times c.node.slot v.marked → 0 < times o.node.slot v.marked
  pub busy : (o : OwnView) → Member o v.own → 0 < times o.node.slot v.busy → 0 < times o.node.slot v.marked

-- what a load tells of the word that it found
pub record Tells (v : MarksView) (i n : ℕ) : Type 0 where
  pub entry : (k : ℕ) → i ≡ claiming.place v.claims.count (v.claims.head + k) → (h : Handle) → get_elem? v.claims.list k ≡ some h → (n ≡ word_of h) × IsHandle h
  pub counter : (c : ℕ) → i ≡ 0 → v.claims.counter ≡ Some c → n ≡ c
  pub once : IsDistinct v.claims.held
  -- to a sole pass, each slot that isn't still to be drawn is its own
  pub whole : claiming.IsSole v.claims → claiming.Accounted (claiming.rewound v.claims)
  pub held_is : map handle_of v.states ≡ v.claims.held
  pub low : (e : Place) → Member e (places v) → e.node.slot < v.claims.count
  pub parent : (e : Place) → Member e (places v) → i ≡ parent_at v.claims.count e.node.slot → n ≡ parent_word e.parent
  -- the parent of a node that isn't dropped is one of the table's
  pub above : (e : Place) (p : ℕ) → Member e (places v) → times e.node.slot v.dropped ≡ 0 → e.parent ≡ Some p → p < v.claims.count
  pub state : (t : StateView) → Member t v.states → i ≡ state_at v.claims.count t.of.slot → n ≡ t.word
  pub state_low : (t : StateView) → Member t v.states → t.of.slot < v.claims.count
  -- to a sole pass, what it doesn't hold is free, and it doesn't have it
  pub free : (c x : ℕ) → v.claims.counter ≡ Some c → x < v.claims.count → slot_times x v.claims.held ≡ 0 → i ≡ state_at v.claims.count x → (g : ℕ) × (n ≡ 2 * g) × Lacks v x
  pub holds : (c : ℕ) → v.claims.counter ≡ Some c → Holds v
  pub closed : v.climb ≡ None → IsClosed v
  -- what is dropped is the pass's own, and nothing that it shares is dropped
  pub dropped : (x : ℕ) → 0 < times x v.dropped → HasOwn v.own x
  pub kept : (e : SharedView) → Member e v.shared → times e.node.slot v.dropped ≡ 0

pub record Loaded (s : Step (Unit {0})) (v : Seat) (n : ℕ) (w : Seat) : Type 0 where
  pub same : w ≡ v
  pub tells : Tells v.0 s.word n

-- an own node has this parent from here on
abbrev pub hang : ℕ → Option ℕ → OwnView → OwnView
hang x par o = record { node = o.node; parent = cond (o.node.slot == x) par o.parent }

abbrev pub hung : ℕ → Option ℕ → MarksView → MarksView
hung x par v = record v { own = map (hang x par) v.own }

abbrev pub Hung : Step (Unit {0}) → Seat → ℕ → Seat → Type 0
Hung s v n w = (x : ℕ) (par : Option ℕ) → s.word ≡ parent_at v.0.claims.count x → s.first ≡ parent_word par → w ≡ (hung x par v.0, v.1)

abbrev pub put : ℕ → ℕ → StateView → StateView
put x n t = record { of = t.of; word = cond (t.of.slot == x) n t.word }

abbrev pub stated : ℕ → ℕ → MarksView → MarksView
stated x n v = record v { states = map (put x n) v.states }

abbrev pub Stated : Step (Unit {0}) → Seat → ℕ → Seat → Type 0
Stated s v n w = (x : ℕ) → s.word ≡ state_at v.0.claims.count x → w ≡ (stated x s.first v.0, v.1)

-- from a node with a parent a climb goes on
abbrev pub climbs_from : ℕ → Option ℕ → Option ℕ
climbs_from x None = None
climbs_from x (Some p) = Some x

-- the swap of a 1 into the mark of the node x: where it found 0 it climbs on, and where it found 1 the climb ends
abbrev pub raised : ℕ → Option ℕ → ℕ → MarksView → MarksView
raised x par zero v = record v { marked = v.marked ++ x ∷ []; climb = climbs_from x par }
raised x par (suc n) v = record v { busy = v.busy ++ x ∷ []; climb = None }

pub record Raised (s : Step (Unit {0})) (v : Seat) (n : ℕ) (w : Seat) : Type 0 where
  pub becomes : (e : Place) → Member e (places v.0) → s.word ≡ mark_at v.0.claims.count e.node.slot → w ≡ (raised e.node.slot e.parent n v.0, v.1)
  -- it finds what is known to be marked
  pub found : (x : ℕ) → s.word ≡ mark_at v.0.claims.count x → (0 < times x v.0.marked) ⊎ (0 < times x v.0.busy) → 0 < n

abbrev pub other : ℕ → ℕ → Bool
other x y = not (y == x)

-- the node isn't marked from here on
abbrev pub cleared : ℕ → MarksView → MarksView
cleared x v = record v { marked = filter (other x) v.marked; busy = filter (other x) v.busy }

abbrev pub Cleared : Step (Unit {0}) → Seat → ℕ → Seat → Type 0
Cleared s v n w = (x : ℕ) → s.word ≡ mark_at v.0.claims.count x → w ≡ (cleared x v.0, v.1)

abbrev pub asked : MarksView → MarksView
asked v = record v { asks = suc v.asks }

pub record Asked (s : Step (Unit {0})) (v : Seat) (n : ℕ) (w : Seat) : Type 0 where
  pub counted : w ≡ (asked v.0, v.1)
  pub closed : v.0.climb ≡ None → IsClosed v.0
  pub tells : (x : ℕ) → HasOwn v.0.own x → s.word ≡ mark_at v.0.claims.count x → n ≡ times x v.0.marked

-- the node is dropped from here on
abbrev pub detached : ℕ → MarksView → MarksView
detached x v = record v { dropped = v.dropped ++ x ∷ [] }

abbrev pub Detached : Step (Unit {0}) → Seat → ℕ → Seat → Type 0
Detached s v n w = (x : ℕ) → s.word ≡ mark_at v.0.claims.count x → w ≡ (detached x v.0, v.1)

-- all these are
abbrev pub dropping : List ℕ → MarksView → MarksView
dropping xs v = record v { dropped = v.dropped ++ xs }

abbrev pub regained : ℕ → MarksView → MarksView
regained n v = record v { claims = claiming.learned n v.claims }

-- no other pass has a node that this one shares, and none drew an index
abbrev pub Regained : Step (Unit {0}) → Seat → ℕ → Seat → Type 0
Regained s v n w = (w ≡ (regained n v.0, v.1)) × (v.0.shared ≡ []) × claiming.DrewBelow n v.0.claims

abbrev pub rewound : MarksView → MarksView
rewound v = record v { claims = claiming.rewound v.claims }

abbrev pub Rewound : Step (Unit {0}) → Seat → ℕ → Seat → Type 0
Rewound s v n w = w ≡ (rewound v.0, v.1)

abbrev pub other_own : ℕ → OwnView → Bool
other_own x o = not (o.node.slot == x)

abbrev pub other_state : ℕ → StateView → Bool
other_state x t = not (t.of.slot == x)

-- a node is free again, with the next generation
abbrev pub gave : Handle → MarksView → MarksView
gave h v = record v { claims = claiming.gave h v.claims; own = filter (other_own h.slot) v.own; dropped = filter (other h.slot) v.dropped; states = filter (other_state h.slot) v.states }

abbrev pub Gave : Step (Unit {0}) → Seat → ℕ → Seat → Type 0
Gave s v n w = (h : Handle) → Member h v.0.claims.held → h.generation < 4294967295 → s.first ≡ word_of (later h) → w ≡ (gave h v.0, v.1)

-- a node goes back, and its mark with it
abbrev pub released : Handle → MarksView → MarksView
released h v = gave h (cleared h.slot v)

-- all nodes that were out are free again, lower ones first
abbrev pub gave_all : MarksView → MarksView
gave_all v = record v {
  claims = record v.claims { list = v.claims.list ++ map later (by_slot v.claims.count v.claims.held); held = [] };
  own = [];
  marked = [];
  busy = [];
  dropped = [];
  states = [];
}

module _ (shared to_right : ℕ → Bool) where
  -- an own node that goes to the right, and one that stays on the left
  abbrev pub goes_over : MarksView → ℕ → Bool
  goes_over v x = ltb 0 (times x (map ways.slot v.own)) && (not (shared x) && to_right x)

  abbrev pub stays_here : MarksView → ℕ → Bool
  stays_here v x = ltb 0 (times x (map ways.slot v.own)) && (not (shared x) && not (to_right x))

  abbrev pub now_shared : MarksView → List SharedView
  now_shared v = v.shared ++ map (ways.lend v.claims.branch) (filter (lends ways shared to_right) v.own)

  -- the marks of shared nodes stay on the left, and are busy on both sides
  abbrev pub left_of : MarksView → MarksView
  left_of v = record v {
    claims = claiming.left_of v.claims;
    own = filter (stays ways shared to_right) v.own;
    shared = now_shared v;
    marked = filter (λ x. not (goes_over v x)) v.marked;
    busy = filter (λ x. not (goes_over v x)) (v.busy ++ v.marked);
    dropped = filter (λ x. not (goes_over v x)) v.dropped;
    met = None;
  }

  abbrev pub right_of : MarksView → MarksView
  right_of v = record {
    claims = claiming.right_of v.claims;
    own = filter (goes ways shared to_right) v.own;
    shared = now_shared v;
    marked = filter (goes_over v) v.marked;
    busy = filter (λ x. not (stays_here v x)) (v.busy ++ v.marked);
    climb = None;
    dropped = filter (goes_over v) v.dropped;
    states = [];
    asks = 0;
    met = None;
  }

abbrev pub joined : MarksView → MarksView → MarksView
joined v w = record v {
  claims = claiming.joined v.claims w.claims;
  own = (v.own ++ w.own) ++ map ways.back (filter (comes_back ways (stem v.claims.branch)) v.shared);
  shared = filter (above ways (stem v.claims.branch)) v.shared;
  marked = v.marked ++ w.marked;
  busy = v.busy ++ w.busy;
  dropped = v.dropped ++ w.dropped;
  states = v.states ++ w.states;
  asks = v.asks + w.asks;
  met = None;
}

abbrev pub met : MarksView → MarksView → MarksView
met v w = record (joined v w) { met = Some (record { left = v.own; right = w.own; shared_left = v.shared; shared_right = w.shared }) }

pub record Settled (s : Step (Unit {0})) (v : Seat) (n : ℕ) (w : Seat) : Type 0 where
  pub settled : w ≡ (record v.0 { met = None }, v.1)
  pub meeting : IfSome v.0.met Meeting
  pub tells : Tells v.0 s.word n
