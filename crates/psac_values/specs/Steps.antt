-- What each step makes of a view, and what it tells.
use Rattle.std.specs.Prelude.{◌≡◌, ◌≢◌, ℕ, zero, suc, ◌+◌, ◌*◌, ◌<◌, List, [], ◌∷◌, ◌++◌, map, filter, length, set, Bool, cond, not, ltb, ◌==◌, Some, None, IfSome}
use mathlib.Core.Option.{some}
use lib.ListN.{get_elem?}
use Rattle.atomic_table.specs.Table.{Step, Me}
use Rattle.psac_ops.specs.declared.plain.Handle.{Handle}
use Rattle.psac_slots.specs.Handles.{Member, word_of, fresh, IsHandle, later, IsDistinct, slot_times, removed}
use Rattle.psac_slots.specs.Given.{only, by_slot}
use Rattle.psac_slots.specs.Branches.{stem}
use Rattle.psac_slots.specs.Divided.{stays, goes, lends, above, comes_back}
use Rattle.psac_slots.specs.Claiming as claiming
use Rattle.psac_values.specs.declared.view.OwnedView.{OwnedView}
use Rattle.psac_values.specs.declared.view.KnownView.{KnownView}
use Rattle.psac_values.specs.declared.view.StateView.{StateView}
use Rattle.psac_values.specs.declared.view.ValueView.{ValueView}
use Rattle.psac_values.specs.Valued.{handle_of, state_at, value_at, free_word, ways, Meeting}

abbrev pub Seat : Type 0
Seat = Me (Unit {0}) ValueView

-- the slots from 0 to n-1, with generation 0 and words of zeros
abbrev pub first_mine : ℕ → List OwnedView
first_mine zero = []
first_mine (suc n) = first_mine n ++ record { of = record { slot = n; generation = 0 }; words = Some 0 ∷ Some 0 ∷ Some 0 ∷ [] } ∷ []

abbrev pub first_view : ℕ → ℕ → ValueView
first_view fixed count = record { claims = claiming.first_view count; fixed = fixed; mine = first_mine fixed; known = []; states = []; looks = 0; met = None }

abbrev pub repeated : ℕ → ℕ → List ℕ
repeated x zero = []
repeated x (suc n) = repeated x n ++ x ∷ []

-- the counter, the ring of free slots, their states, and words of zeros
abbrev pub first_words : ℕ → ℕ → List ℕ
first_words fixed count = 0 ∷ (map word_of (fresh count) ++ (repeated 2 count ++ repeated 0 (3 * (fixed + count))))

abbrev pub spent : ValueView
spent = record { claims = claiming.spent; fixed = 0; mine = []; known = []; states = []; looks = 0; met = None }

-- a made slot's modifiable
abbrev pub made_handle : ℕ → Handle → Handle
made_handle fixed h = record { slot = fixed + h.slot; generation = h.generation }

-- a claimed slot, of whose words nothing is known
abbrev pub new_owned : ℕ → Handle → OwnedView
new_owned fixed h = record { of = made_handle fixed h; words = None ∷ None ∷ None ∷ [] }

abbrev pub new_state : Handle → StateView
new_state h = record { of = h; word = free_word h }

abbrev pub drew : ValueView → ℕ → ValueView
drew v n = record v { claims = claiming.drew v.claims n; mine = v.mine ++ map (new_owned v.fixed) (claiming.entry v.claims.list n); states = v.states ++ map new_state (claiming.entry v.claims.list n) }

-- the pass neither has nor knows the slot
pub record Lacks (v : ValueView) (s : ℕ) : Type 0 where
  pub mine : (w : OwnedView) → Member w v.mine → w.of.slot ≢ s
  pub known : (e : KnownView) → Member e v.known → e.of.slot ≢ s

pub record Drew (s : Step (Unit {0})) (v : Seat) (n : ℕ) (w : Seat) : Type 0 where
  pub drawn : w ≡ (drew v.0 n, v.1)
  pub new : (h : Handle) → Member h (claiming.entry v.0.claims.list n) → Lacks v.0 (v.0.fixed + h.slot)
  pub low : (h : Handle) → Member h (claiming.entry v.0.claims.list n) → h.slot < v.0.claims.count

-- what a load tells of the word that it found
pub record Tells (v : ValueView) (i n : ℕ) : Type 0 where
  pub entry : (k : ℕ) → i ≡ claiming.place v.claims.count (v.claims.head + k) → (h : Handle) → get_elem? v.claims.list k ≡ some h → (n ≡ word_of h) × IsHandle h
  pub counter : (c : ℕ) → i ≡ 0 → v.claims.counter ≡ Some c → n ≡ c
  pub mine : (w : OwnedView) (j x : ℕ) → Member w v.mine → i ≡ value_at v.claims.count w.of.slot j → get_elem? w.words j ≡ some (Some x) → n ≡ x
  pub known : (e : KnownView) (j x : ℕ) → Member e v.known → i ≡ value_at v.claims.count e.of.slot j → get_elem? e.words j ≡ some (Some x) → n ≡ x
  pub state : (t : StateView) → Member t v.states → i ≡ state_at v.claims.count t.of.slot → n ≡ t.word
  -- to a sole pass, what it doesn't hold is free, and it has none of its words
  pub free : (c s : ℕ) → v.claims.counter ≡ Some c → s < v.claims.count → slot_times s v.claims.held ≡ 0 → i ≡ state_at v.claims.count s → (g : ℕ) × (n ≡ 2 * g) × Lacks v (v.fixed + s)
  pub once : IsDistinct v.claims.held
  pub whole : claiming.IsSole v.claims → claiming.Accounted (claiming.rewound v.claims)
  pub held_is : map handle_of v.states ≡ v.claims.held

pub record Loaded (s : Step (Unit {0})) (v : Seat) (n : ℕ) (w : Seat) : Type 0 where
  pub same : w ≡ v
  pub tells : Tells v.0 s.word n

abbrev pub looked : ValueView → ValueView
looked v = record v { looks = suc v.looks }

pub record Looked (s : Step (Unit {0})) (v : Seat) (n : ℕ) (w : Seat) : Type 0 where
  pub looked_is : w ≡ (looked v.0, v.1)
  pub tells : Tells v.0 s.word n

abbrev pub put : ℕ → ℕ → ℕ → OwnedView → OwnedView
put s j x e = record { of = e.of; words = cond (e.of.slot == s) (set e.words j (Some x)) e.words }

abbrev pub wrote_word : ℕ → ℕ → ℕ → ValueView → ValueView
wrote_word s j x v = record v { mine = map (put s j x) v.mine }

abbrev pub Wrote : Step (Unit {0}) → Seat → ℕ → Seat → Type 0
Wrote s v n w = (m j : ℕ) → j < 3 → s.word ≡ value_at v.0.claims.count m j → w ≡ (wrote_word m j s.first v.0, v.1)

abbrev pub mark : ℕ → ℕ → StateView → StateView
mark s x t = record { of = t.of; word = cond (t.of.slot == s) x t.word }

abbrev pub marked : ℕ → ℕ → ValueView → ValueView
marked s x v = record v { states = map (mark s x) v.states }

abbrev pub Marked : Step (Unit {0}) → Seat → ℕ → Seat → Type 0
Marked s v n w = (m : ℕ) → s.word ≡ state_at v.0.claims.count m → w ≡ (marked m s.first v.0, v.1)

abbrev pub learned : ℕ → ValueView → ValueView
learned n v = record v { claims = claiming.learned n v.claims }

-- no other pass knows anything that this one shares, and none drew an index
abbrev pub Learned : Step (Unit {0}) → Seat → ℕ → Seat → Type 0
Learned s v n w = (w ≡ (learned n v.0, v.1)) × (v.0.known ≡ []) × claiming.DrewBelow n v.0.claims

abbrev pub rewound : ValueView → ValueView
rewound v = record v { claims = claiming.rewound v.claims }

abbrev pub Rewound : Step (Unit {0}) → Seat → ℕ → Seat → Type 0
Rewound s v n w = w ≡ (rewound v.0, v.1)

abbrev pub other_owned : ℕ → OwnedView → Bool
other_owned s w = not (w.of.slot == s)

abbrev pub other_state : ℕ → StateView → Bool
other_state s t = not (t.of.slot == s)

-- a made slot is free again, with the next generation
abbrev pub gave : Handle → ValueView → ValueView
gave h v = record v { claims = claiming.gave h v.claims; mine = filter (other_owned (v.fixed + h.slot)) v.mine; states = filter (other_state h.slot) v.states }

-- a made slot is free again, with the next generation, if it was out
abbrev pub gave_slot : ℕ → ValueView → ValueView
gave_slot s v = record v {
  claims = record v.claims { list = v.claims.list ++ map later (only s v.claims.held); held = removed s v.claims.held };
  mine = filter (other_owned (v.fixed + s)) v.mine;
  states = filter (other_state s) v.states;
}

abbrev pub is_fixed : ℕ → OwnedView → Bool
is_fixed fixed w = ltb w.of.slot fixed

-- all made slots that were out are free again, lower ones first
abbrev pub gave_all : ValueView → ValueView
gave_all v = record v {
  claims = record v.claims { list = v.claims.list ++ map later (by_slot v.claims.count v.claims.held); held = [] };
  mine = filter (is_fixed v.fixed) v.mine;
  states = [];
}

abbrev pub Gave : Step (Unit {0}) → Seat → ℕ → Seat → Type 0
Gave s v n w = (h : Handle) → Member h v.0.claims.held → h.generation < 4294967295 → s.first ≡ word_of (later h) → w ≡ (gave h v.0, v.1)

module _ (shared to_right : ℕ → Bool) where
  abbrev pub now_known : ValueView → List KnownView
  now_known v = v.known ++ map (ways.lend v.claims.branch) (filter (lends ways shared to_right) v.mine)

  abbrev pub left_of : ValueView → ValueView
  left_of v = record v { claims = claiming.left_of v.claims; mine = filter (stays ways shared to_right) v.mine; known = now_known v; met = None }

  abbrev pub right_of : ValueView → ValueView
  right_of v = record { claims = claiming.right_of v.claims; fixed = v.fixed; mine = filter (goes ways shared to_right) v.mine; known = now_known v; states = []; looks = 0; met = None }

-- what both sides had, and what they shared from their branch on
abbrev pub joined : ValueView → ValueView → ValueView
joined v w = record v {
  claims = claiming.joined v.claims w.claims;
  mine = (v.mine ++ w.mine) ++ map ways.back (filter (comes_back ways (stem v.claims.branch)) v.known);
  known = filter (above ways (stem v.claims.branch)) v.known;
  states = v.states ++ w.states;
  looks = v.looks + w.looks;
  met = None;
}

abbrev pub met : ValueView → ValueView → ValueView
met v w = record (joined v w) { met = Some (record { left = v.mine; right = w.mine; known_left = v.known; known_right = w.known }) }

pub record Settled (s : Step (Unit {0})) (v : Seat) (n : ℕ) (w : Seat) : Type 0 where
  pub settled : w ≡ (record v.0 { met = None }, v.1)
  pub meeting : IfSome v.0.met Meeting
  pub low : (x : OwnedView) → Member x v.0.mine → (length x.words ≡ 3) × (x.of.slot < v.0.fixed + v.0.claims.count)
  pub states : (t : StateView) → Member t v.0.states → t.of.slot < v.0.claims.count
