-- What each step makes of a view, and what it tells.
use Rattle.std.specs.Prelude.{◌≡◌, ◌⊎◌, ℕ, zero, suc, ◌+◌, ◌<◌, ◌≤◌, List, [], ◌∷◌, ◌++◌, map, filter, length, Bool, cond, not, ltb, ◌==◌, sum_by, Option, Some, None}
use mathlib.Core.Option.{some}
use lib.ListN.{get_elem?}
use Rattle.atomic_table.specs.Table.{Step, Me}
use Rattle.psac_ops.specs.declared.plain.Handle.{Handle}
use Rattle.psac_slots.specs.Claiming as claiming
use Rattle.psac_slots.specs.Handles as handles
use Rattle.psac_slots.specs.Branches.{stem}
use Rattle.psac_readers.specs.declared.view.Stage.{Stage}
use Rattle.psac_readers.specs.declared.view.Stage.TheVariants.{Claimed, UnderWay, In, Dead}
use Rattle.psac_readers.specs.declared.view.LinkView.{LinkView}
use Rattle.psac_readers.specs.declared.view.WalkView.{WalkView}
use Rattle.psac_readers.specs.declared.view.SharedView.{SharedView}
use Rattle.psac_readers.specs.declared.view.ReadersView.{ReadersView}
use Rattle.psac_slots.specs.Handles.{Member}
use Rattle.psac_slots.specs.Divided.{stays, goes, above, comes_back}
use Rattle.psac_readers.specs.Chained.{head_at, next_at, dead_at, node_at, named, linked, alive, deads, times, mods_of, labelled, ways}

abbrev pub Seat : Type 0
Seat = Me (Unit {0}) ReadersView

-- the modifiables from 0 to n-1, with empty sets
abbrev pub first_walk : ℕ → List WalkView
first_walk zero = []
first_walk (suc n) = first_walk n ++ record { of = n; chain = Some [] } ∷ []

abbrev pub first_view : ℕ → ℕ → ReadersView
first_view links mods = record { claims = claiming.first_view links; mods = mods; walk = first_walk mods; shared = []; links = [] }

abbrev pub spent : ReadersView
spent = record { claims = claiming.spent; mods = 0; walk = []; shared = []; links = [] }

abbrev pub new_link : Handle → LinkView
new_link h = record { link = h.slot; of = 0; node = None; stage = Claimed }

abbrev pub drew : ReadersView → ℕ → ReadersView
drew v n = record v { claims = claiming.drew v.claims n; links = map new_link (claiming.entry v.claims.list n) ++ v.links }

abbrev pub Drew : Step (Unit {0}) → Seat → ℕ → Seat → Type 0
Drew s v n w = w ≡ (drew v.0 n, v.1)

-- at the newest link
abbrev pub on_head : (LinkView → LinkView) → List LinkView → List LinkView
on_head f [] = []
on_head f (k ∷ ks) = f k ∷ ks

abbrev pub noded : ℕ → LinkView → LinkView
noded x k = record k { node = Some x }

abbrev pub Noded : Step (Unit {0}) → Seat → ℕ → Seat → Type 0
Noded s v n w = w ≡ (record v.0 { links = on_head (noded s.first) v.0.links }, v.1)

-- the modifiable is one that the pass has
abbrev pub Has : ℕ → ReadersView → Type 0
Has m v = Member m (mods_of v.walk) ⊎ ((e : SharedView) × Member e v.shared × (e.of ≡ m))

abbrev pub forget : ℕ → WalkView → WalkView
forget m e = record { of = e.of; chain = cond (e.of == m) None e.chain }

abbrev pub way : ℕ → ℕ → LinkView → LinkView
way m n k = record k { of = m; stage = UnderWay n }

abbrev pub swapped : ℕ → ℕ → ReadersView → ReadersView
swapped m n v = record v { walk = map (forget m) v.walk; links = on_head (way m n) v.links }

abbrev pub Swapped : Step (Unit {0}) → Seat → ℕ → Seat → Type 0
Swapped s v n w = (m : ℕ) → s.word ≡ head_at v.0.claims.count m → w ≡ (swapped m n v.0, v.1)

abbrev pub came : LinkView → LinkView
came k = record k { stage = In }

abbrev pub Came : Step (Unit {0}) → Seat → ℕ → Seat → Type 0
Came s v n w = w ≡ (record v.0 { links = on_head came v.0.links }, v.1)

abbrev pub dying : Stage → Stage
dying Claimed = Claimed
dying (UnderWay n) = UnderWay n
dying In = Dead
dying Dead = Dead

abbrev pub die : ℕ → LinkView → LinkView
die l k = record k { stage = cond (k.link == l) (dying k.stage) k.stage }

abbrev pub left : ℕ → ReadersView → ReadersView
left l v = record v { links = map (die l) v.links }

abbrev pub Left : Step (Unit {0}) → Seat → ℕ → Seat → Type 0
Left s v n w = (l : ℕ) → s.word ≡ dead_at v.0.claims.count v.0.mods l → w ≡ (left l v.0, v.1)

abbrev pub learn : ℕ → List ℕ → WalkView → WalkView
learn m ls e = record { of = e.of; chain = cond (e.of == m) (Some ls) e.chain }

abbrev pub learned : ℕ → List ℕ → ReadersView → ReadersView
learned m ls v = record v { walk = map (learn m ls) v.walk }

-- the word that names the first of the links
abbrev pub front : List ℕ → ℕ
front [] = 0
front (l ∷ ls) = suc l

-- the list has exactly the links of the set, each once
abbrev pub IsSet : ReadersView → ℕ → List ℕ → Type 0
IsSet v m ls = (l : ℕ) → (times l ls ≡ sum_by (linked m l) v.links) × (times l ls ≤ 1)

abbrev pub Began : Step (Unit {0}) → Seat → ℕ → Seat → Type 0
Began s v n w = (m : ℕ) → s.word ≡ head_at v.0.claims.count m → Member m (mods_of v.0.walk) → (ls : List ℕ) × (w ≡ (learned m ls v.0, v.1)) × (n ≡ front ls) × IsSet v.0 m ls × ((l : ℕ) → sum_by (named l) v.0.links ≤ 1)

-- the chain of a set, where it is known
abbrev pub chain_of : ℕ → List WalkView → Option (List ℕ)
chain_of m [] = None
chain_of m (e ∷ es) = cond (e.of == m) e.chain (chain_of m es)

-- what comes behind a link
abbrev pub behind : ℕ → List ℕ → List ℕ
behind l [] = []
behind l (x ∷ xs) = cond (x == l) xs (behind l xs)

abbrev pub node_in : ℕ → List LinkView → Option ℕ
node_in l [] = None
node_in l (k ∷ ks) = cond (k.link == l) k.node (node_in l ks)

-- no link is under way
abbrev pub is_settled : Stage → ℕ
is_settled Claimed = 0
is_settled (UnderWay n) = 0
is_settled In = 1
is_settled Dead = 1

abbrev pub settled : ℕ → LinkView → ℕ
settled l k = cond (k.link == l) (is_settled k.stage) 0

abbrev pub regained : ℕ → ReadersView → ReadersView
regained n v = record v { claims = claiming.learned n v.claims }

-- no other pass has a set that this one shares, and none drew an index
abbrev pub Regained : Step (Unit {0}) → Seat → ℕ → Seat → Type 0
Regained s v n w = (w ≡ (regained n v.0, v.1)) × (v.0.shared ≡ []) × claiming.DrewBelow n v.0.claims × ((l : ℕ) → sum_by (named l) v.0.links ≤ 1)

abbrev pub rewound : ReadersView → ReadersView
rewound v = record v { claims = claiming.rewound v.claims }

abbrev pub Rewound : Step (Unit {0}) → Seat → ℕ → Seat → Type 0
Rewound s v n w = w ≡ (rewound v.0, v.1)

-- each link of the pass is held, and what it holds is one of its links; each is in a set of the table, if it is in one
pub record Holds (v : ReadersView) : Type 0 where
  pub held : (l : ℕ) → sum_by (named l) v.links ≡ handles.slot_times l v.claims.held
  pub inside : (m l : ℕ) → v.mods ≤ m → sum_by (linked m l) v.links ≡ 0

pub record Loaded (s : Step (Unit {0})) (v : Seat) (n : ℕ) (w : Seat) : Type 0 where
  pub same : w ≡ v
  pub low : (l : ℕ) → 0 < sum_by (named l) v.0.links → l < v.0.claims.count
  pub once : (l : ℕ) → sum_by (named l) v.0.links ≤ 1
  pub entry : (k : ℕ) → s.word ≡ claiming.place v.0.claims.count (v.0.claims.head + k) → (h : Handle) → get_elem? v.0.claims.list k ≡ some h → (n ≡ handles.word_of h) × handles.IsHandle h
  pub counter : (c : ℕ) → s.word ≡ 0 → v.0.claims.counter ≡ Some c → n ≡ c
  -- to a sole pass, each link that isn't still to be drawn is its own
  pub whole : claiming.IsSole v.0.claims → claiming.Accounted (claiming.rewound v.0.claims)
  pub holds : claiming.IsSole v.0.claims → Holds v.0
  pub dead : (l : ℕ) → s.word ≡ dead_at v.0.claims.count v.0.mods l → 0 < sum_by (named l) v.0.links → n ≡ sum_by (deads l) v.0.links
  -- to a sole pass a link that no pass has says that it isn't dead
  pub alone : claiming.IsSole v.0.claims → (l : ℕ) → l < v.0.claims.count → s.word ≡ dead_at v.0.claims.count v.0.mods l → n ≡ sum_by (deads l) v.0.links
  pub next : (l m : ℕ) (ls : List ℕ) → m < v.0.mods → s.word ≡ next_at v.0.claims.count v.0.mods l → chain_of m v.0.walk ≡ Some ls → 0 < times l ls → 0 < sum_by (settled l) v.0.links → n ≡ front (behind l ls)
  pub node : (l x : ℕ) → s.word ≡ node_at v.0.claims.count v.0.mods l → node_in l v.0.links ≡ Some x → n ≡ x

-- the first live link
abbrev pub next_live : List LinkView → List ℕ → Option ℕ
next_live ks [] = None
next_live ks (l ∷ ls) = cond (ltb 0 (sum_by (alive l) ks)) (Some l) (next_live ks ls)

module _ (shared to_right link_right : ℕ → Bool) where
  -- a link of a set that is shared from here on goes where the division says, any other with its set
  abbrev pub right_link : LinkView → Bool
  right_link k = cond (shared k.of) (link_right k.link) (to_right k.of)

  abbrev pub now_shared : ReadersView → List SharedView
  now_shared v = v.shared ++ map (labelled v.claims.branch) (filter shared (mods_of v.walk))

  abbrev pub left_of : ReadersView → ReadersView
  left_of v = record { claims = claiming.left_of v.claims; mods = v.mods; walk = filter (λ (e : WalkView). stays ways shared to_right e.of) v.walk; shared = now_shared v; links = filter (λ k. not (right_link k)) v.links }

  abbrev pub right_of : ReadersView → ReadersView
  right_of v = record { claims = claiming.right_of v.claims; mods = v.mods; walk = filter (λ (e : WalkView). goes ways shared to_right e.of) v.walk; shared = now_shared v; links = filter right_link v.links }

abbrev pub unknown : SharedView → WalkView
unknown e = record { of = e.of; chain = None }

abbrev pub joined : ReadersView → ReadersView → ReadersView
joined v w = record {
  claims = claiming.joined v.claims w.claims;
  mods = v.mods;
  walk = (v.walk ++ w.walk) ++ map unknown (filter (comes_back ways (stem v.claims.branch)) v.shared);
  shared = filter (above ways (stem v.claims.branch)) v.shared;
  links = v.links ++ w.links;
}

-- a word for each slot of the free list, and zeros
abbrev pub zeros : ℕ → List ℕ
zeros zero = []
zeros (suc n) = zeros n ++ 0 ∷ []

abbrev pub first_words : ℕ → ℕ → List ℕ
first_words links n = 0 ∷ (map handles.word_of (handles.fresh links) ++ zeros n)

-- what an enter makes of a view: it draws the index n, and the link l goes in
abbrev pub entered : ReadersView → ℕ → ℕ → ℕ → ℕ → ReadersView
entered v n m x l = record v { claims = claiming.drew v.claims n; walk = map (forget m) v.walk; links = record { link = l; of = m; node = Some x; stage = In } ∷ v.links }

abbrev pub Entered : ReadersView → ℕ → ℕ → ℕ → ReadersView → Type 0
Entered v m x l w = (n : ℕ) × (n < length v.claims.list) × ((h : Handle) × (claiming.entry v.claims.list n ≡ h ∷ []) × (h.slot ≡ l)) × (w ≡ entered v n m x l)

-- what holds of each link between two calls
pub record Fine (links : ℕ) (k : LinkView) : Type 0 where
  pub low : k.link < links
  pub settled : is_settled k.stage ≡ 1
  pub node : (x : ℕ) × (k.node ≡ Some x)

-- the modifiable in whose set a link of the pass stands
abbrev pub set_of : ℕ → List LinkView → ℕ
set_of l [] = 0
set_of l (k ∷ ks) = cond (k.link == l) k.of (set_of l ks)

abbrev pub reviving : Stage → Stage
reviving Claimed = Claimed
reviving (UnderWay n) = UnderWay n
reviving In = In
reviving Dead = In

-- a dead link is live again, before it is taken off
abbrev pub revive : ℕ → LinkView → LinkView
revive l k = record k { stage = cond (k.link == l) (reviving k.stage) k.stage }

abbrev pub revived : ℕ → ReadersView → ReadersView
revived l v = record v { links = map (revive l) v.links }

abbrev pub Revived : Step (Unit {0}) → Seat → ℕ → Seat → Type 0
Revived s v n w = (l : ℕ) → s.word ≡ dead_at v.0.claims.count v.0.mods l → w ≡ (revived l v.0, v.1)

abbrev pub leaving : Stage → Stage
leaving Claimed = Claimed
leaving (UnderWay n) = UnderWay n
leaving In = Claimed
leaving Dead = Dead

-- a live link stands in no set from here on
abbrev pub take_off : ℕ → LinkView → LinkView
take_off l k = record k { stage = cond (k.link == l) (leaving k.stage) k.stage }

abbrev pub without : ℕ → List ℕ → List ℕ
without l [] = []
without l (x ∷ xs) = cond (x == l) (without l xs) (x ∷ without l xs)

abbrev pub known_without : ℕ → Option (List ℕ) → Option (List ℕ)
known_without l None = None
known_without l (Some ls) = Some (without l ls)

abbrev pub lose : ℕ → WalkView → WalkView
lose l e = record { of = e.of; chain = known_without l e.chain }

abbrev pub unlinked : ℕ → ReadersView → ReadersView
unlinked l v = record v { walk = map (lose l) v.walk; links = map (take_off l) v.links }

abbrev pub other_link : ℕ → LinkView → Bool
other_link l k = not (k.link == l)

-- a link is free again. Links have no generation of their own
abbrev pub freed : ℕ → ReadersView → ReadersView
freed l v = record v { claims = claiming.returned (record { slot = l; generation = 1 }) v.claims; links = filter (other_link l) v.links }

abbrev pub Freed : Step (Unit {0}) → Seat → ℕ → Seat → Type 0
Freed s v n w = (l : ℕ) → s.first ≡ 4294967296 + l → (w ≡ (freed l v.0, v.1)) × (0 < handles.slot_times l v.0.claims.held)

-- a link is taken off its set, and is free again behind all others
abbrev pub swept_one : ℕ → ReadersView → ReadersView
swept_one l v = record v { claims = claiming.returned (record { slot = l; generation = 1 }) v.claims; walk = map (lose l) v.walk; links = filter (other_link l) v.links }

-- one link after another
abbrev pub swept : List ℕ → ReadersView → ReadersView
swept [] v = v
swept (l ∷ ls) v = swept ls (swept_one l v)

-- the place of the word that leads on from the last of these links, or from the head where there are none
abbrev pub led_from : ℕ → ℕ → ℕ → List ℕ → ℕ
led_from links mods p [] = p
led_from links mods p (x ∷ xs) = led_from links mods (next_at links mods x) xs

-- the word that was found named the link
pub record Unlinked (s : Step (Unit {0})) (v : Seat) (n : ℕ) (w : Seat) : Type 0 where
  pub off : (l : ℕ) → n ≡ suc l → w ≡ (unlinked l v.0, v.1)
  -- and so does the word behind a part of a chain
  pub named : (m l : ℕ) (a b : List ℕ) → m < v.0.mods → Member m (mods_of v.0.walk) → chain_of m v.0.walk ≡ Some (a ++ l ∷ b) → s.word ≡ led_from v.0.claims.count v.0.mods (head_at v.0.claims.count m) a → n ≡ suc l
