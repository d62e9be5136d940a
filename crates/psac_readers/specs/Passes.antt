-- What a pass of the readers is to a contract.
use Rattle.std.specs.Prelude.{◌≡◌, ℕ, suc, ◌+◌, ◌*◌, ◌<◌, ◌≤◌, List, [], ◌∷◌, ◌++◌, length, true, Option, Some, None, cond, ◌==◌, sum_by}
use Rattle.psac_readers.specs.declared.view.ReadersView.{ReadersView}
use Rattle.psac_readers.specs.Chained.{Each, times, alive, mods_of, head_at}
use Rattle.psac_slots.specs.Handles.{Member}
use Rattle.psac_readers.specs.declared.readers.Link.{Link}
use Rattle.psac_readers.specs.Steps.{Fine, front, chain_of, led_from, set_of, IsSet, learned, next_live}

-- what a pass carries, beside its view
pub record Carries (links mods head room words : ℕ) (v : ReadersView) : Type 0 where
  pub live : v.claims.live ≡ true
  pub links_is : v.claims.count ≡ links
  pub mods_is : v.mods ≡ mods
  pub head_is : v.claims.head ≡ head
  pub room_is : length v.claims.list ≡ room
  pub room_fits : room ≤ links
  pub head_fits : head ≤ links
  pub words_is : suc (links + (mods + 3 * links)) ≡ words
  pub small : links < 4294967296
  pub fine : Each (Fine links) v.links

-- the part of a chain that a word names the first link of
abbrev pub from_word : ℕ → List ℕ → List ℕ
from_word w [] = []
from_word w (x ∷ xs) = cond (suc x == w) (x ∷ xs) (from_word w xs)

-- the word of the first link of a part
abbrev pub has_word : ℕ → List ℕ → Type 0
has_word w ls = w ≡ front (from_word w ls)

abbrev pub or_empty : Option (List ℕ) → List ℕ
or_empty None = []
or_empty (Some ls) = ls

abbrev pub found : Option Link → Option ℕ
found None = None
found (Some l) = Some l.index

-- the pass knows that the set of m is this chain
abbrev pub Walks : ReadersView → ℕ → List ℕ → Type 0
Walks v m ls = (m < v.mods) × (chain_of m v.walk ≡ Some ls) × IsSet v m ls

-- a walk of the set begins: the pass learns a chain that has each link of the set once, and gets the first live one
abbrev pub First : ReadersView → ℕ → Option Link → ReadersView → Type 0
First v m r w = (ls : List ℕ) × (w ≡ learned m ls v) × IsSet v m ls × (found r ≡ next_live v.links ls)

-- the link is a live one of the set, whose chain the pass knows
pub record OnWalk (v : ReadersView) (m l : ℕ) : Type 0 where
  pub chain : List ℕ
  pub knows : Walks v m chain
  pub on : 0 < times l chain
  pub live : 0 < sum_by (alive l) v.links
  pub set : set_of l v.links ≡ m

-- the word at this place leads to the link, from which this word leads on
abbrev pub Placing : ReadersView → ℕ → ℕ → ℕ → Type 0
Placing v place l next = (m : ℕ) × (a b : List ℕ) × (m < v.mods) × Member m (mods_of v.walk) × (chain_of m v.walk ≡ Some (a ++ l ∷ b)) × IsSet v m (a ++ l ∷ b) × (next ≡ front b) × (place ≡ led_from v.claims.count v.mods (head_at v.claims.count m) a)
