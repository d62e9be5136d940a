-- The rule of a table of readers.
use Rattle.std.specs.Prelude.{◌≡◌, ◌⊎◌, ℕ, suc, ◌+◌, ◌*◌, ◌<◌, ◌≤◌, List, [], ◌∷◌, map, length, Bool, true, false, cond, ◌==◌, sum_by, Some}
use mathlib.Core.Option.{some}
use lib.ListN.{get_elem?}
use Rattle.psac_slots.specs.declared.view.ClaimView.{ClaimView}
use Rattle.psac_slots.specs.Claiming as claiming
use Rattle.psac_slots.specs.Handles as handles
use Rattle.psac_readers.specs.declared.view.Stage.{Stage}
use Rattle.psac_readers.specs.declared.view.Stage.TheVariants.{Claimed, UnderWay, In, Dead}
use Rattle.psac_readers.specs.declared.view.LinkView.{LinkView}
use Rattle.psac_readers.specs.declared.view.WalkView.{WalkView}
use Rattle.psac_readers.specs.declared.view.SharedView.{SharedView}
use Rattle.psac_readers.specs.declared.view.ReadersView.{ReadersView}
use Rattle.psac_ops.specs.declared.plain.Handle.{Handle}
use Rattle.psac_slots.specs.Handles.{Member}
use Rattle.psac_slots.specs.Divided.{Ways, Rights, Divided}

-- the places of the words: the counter, the free list, a head per modifiable, and per link next, dead and node
abbrev pub head_at : ℕ → ℕ → ℕ
head_at links m = suc (links + m)

abbrev pub next_at : ℕ → ℕ → ℕ → ℕ
next_at links mods l = suc (links + (mods + 3 * l))

abbrev pub dead_at : ℕ → ℕ → ℕ → ℕ
dead_at links mods l = suc (suc (links + (mods + 3 * l)))

abbrev pub node_at : ℕ → ℕ → ℕ → ℕ
node_at links mods l = suc (suc (suc (links + (mods + 3 * l))))

-- from the word of a head or a next, the chain goes through these links, and ends. 0 is the end, and l + 1 is the link l
abbrev pub Follows : (ℕ → ℕ) → ℕ → List ℕ → Type 0
Follows next word [] = word ≡ 0
Follows next word (l ∷ ls) = (word ≡ suc l) × Follows next (next l) ls

-- 1 where the link stands in a set
abbrev pub in_set : Stage → ℕ
in_set Claimed = 0
in_set (UnderWay n) = 1
in_set In = 1
in_set Dead = 1

abbrev pub is_live : Stage → ℕ
is_live Claimed = 0
is_live (UnderWay n) = 0
is_live In = 1
is_live Dead = 0

abbrev pub is_dead : Stage → ℕ
is_dead Claimed = 0
is_dead (UnderWay n) = 0
is_dead In = 0
is_dead Dead = 1

-- of one link: is it l; is it l, in the set of m; is it l, live; is it l, dead
abbrev pub named : ℕ → LinkView → ℕ
named l k = cond (k.link == l) 1 0

abbrev pub linked : ℕ → ℕ → LinkView → ℕ
linked m l k = cond (k.link == l) (cond (k.of == m) (in_set k.stage) 0) 0

abbrev pub alive : ℕ → LinkView → ℕ
alive l k = cond (k.link == l) (is_live k.stage) 0

abbrev pub deads : ℕ → LinkView → ℕ
deads l k = cond (k.link == l) (is_dead k.stage) 0

abbrev pub times : ℕ → List ℕ → ℕ
times x [] = 0
times x (y ∷ ys) = cond (y == x) 1 0 + times x ys

abbrev pub Each : {A : Type 0} → (A → Type 0) → List A → Type 0
Each P [] = Unit {0}
Each P (x ∷ xs) = P x × Each P xs

abbrev pub mods_of : List WalkView → List ℕ
mods_of es = map (λ (e : WalkView). e.of) es

abbrev pub claims_of : ReadersView → ClaimView
claims_of v = v.claims

abbrev pub labelled : List Bool → ℕ → SharedView
labelled b m = record { of = m; label = b }

-- a set is lent to both sides of a fork with the branch as its label
abbrev pub ways : Ways ℕ SharedView
ways = record {
  slot = λ m. m;
  of = λ e. e.of;
  label = λ e. e.label;
  lend = labelled;
  back = λ e. e.of;
  lent_of = λ b m i. m;
  lent_label = λ b m i. b;
  back_slot = λ e i. e.of;
}

abbrev pub rights_of : ReadersView → Rights ℕ SharedView
rights_of v = record { live = v.claims.live; branch = v.claims.branch; alone = mods_of v.walk; shared = v.shared }

module _ (links mods : ℕ) (words : List ℕ) (next : ℕ → ℕ) where
  abbrev pub Staged : ℕ → Stage → Type 0
  Staged l Claimed = Unit {0}
  Staged l (UnderWay n) = next l ≡ n
  Staged l In = get_elem? words (next_at links mods l) ≡ some (next l)
  Staged l Dead = get_elem? words (next_at links mods l) ≡ some (next l)

  -- what is known of one link
  abbrev pub Knows : LinkView → Type 0
  Knows k = Staged k.link k.stage × ((x : ℕ) → k.node ≡ Some x → get_elem? words (node_at links mods k.link) ≡ some x)

-- a link in a set is of a modifiable that the pass has
abbrev pub Placed : List ℕ → List SharedView → LinkView → Type 0
Placed walk shared k = in_set k.stage ≡ 1 → Member k.of walk ⊎ ((e : SharedView) × Member e shared × (e.of ≡ k.of))

abbrev pub Seen : (ℕ → List ℕ) → WalkView → Type 0
Seen chain e = (ls : List ℕ) → e.chain ≡ Some ls → chain e.of ≡ ls

pub record Tells (links mods : ℕ) (words : List ℕ) (next : ℕ → ℕ) (chain : ℕ → List ℕ) (v : ReadersView) : Type 0 where
  pub mods_is : v.claims.live ≡ true → v.mods ≡ mods
  pub known : Each (Knows links mods words next) v.links
  pub placed : Each (Placed (mods_of v.walk) v.shared) v.links
  -- all links of a set that no other pass touches are its own
  pub whole : (m : ℕ) → Member m (mods_of v.walk) → (l : ℕ) → sum_by (linked m l) v.links ≡ times l (chain m)
  pub seen : Each (Seen chain) v.walk
  pub gone : v.claims.live ≡ false → v.links ≡ []

pub record Chained (links mods : ℕ) (words : List ℕ) (views : List ReadersView) : Type 0 where
  pub next : ℕ → ℕ
  pub chain : ℕ → List ℕ
  pub long : links + (mods + 3 * links) < length words
  pub heads : (m : ℕ) → m < mods → (w : ℕ) × (get_elem? words (head_at links m) ≡ some w) × Follows next w (chain m)
  -- no link is in a set beyond those of the table
  pub beyond : (m : ℕ) → mods ≤ m → chain m ≡ []
  -- the dead word is 1 exactly where a view says dead
  pub stored : (l : ℕ) → l < links → get_elem? words (dead_at links mods l) ≡ some (sum_by (λ (v : ReadersView). sum_by (deads l) v.links) views)
  -- a chain has each link that a view has in the set, and no other
  pub counted : (m l : ℕ) → sum_by (λ (v : ReadersView). sum_by (linked m l) v.links) views ≡ times l (chain m)
  -- each claimed slot is a link of one view
  pub owed : (l : ℕ) → sum_by (λ (v : ReadersView). sum_by (named l) v.links) views ≡ sum_by (λ (v : ReadersView). handles.slot_times l v.claims.held) views
  pub tells : (id : ℕ) (v : ReadersView) → get_elem? views id ≡ some v → Tells links mods words next chain v

-- the rule of a table of readers
pub record Readable (links mods : ℕ) (words : List ℕ) (views : List ReadersView) : Type 0 where
  pub counter : ℕ
  pub head : ℕ
  pub list : List Handle
  pub claims : claiming.Claimed links counter head list words (map claims_of views)
  pub rights : Divided ways (map rights_of views)
  pub sets : Chained links mods words views
