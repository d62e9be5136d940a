-- What becomes of the links of a set that is swept.
use Rattle.std.specs.Prelude.{◌≡◌, ℕ, ◌+◌, ◌<◌, List, [], ◌++◌, length, Bool, true, false, Some, sum_by}
use Rattle.psac_slots.specs.Handles.{Member}
use Rattle.psac_readers.specs.declared.view.ReadersView.{ReadersView}
use Rattle.psac_readers.specs.Chained.{head_at, linked, alive, deads, times, mods_of}
use Rattle.psac_readers.specs.Steps.{chain_of, learned, front, led_from, swept, IsSet}
use Rattle.psac_readers.specs.Passes.{from_word, or_empty}

-- the links of a set go, all or the dead ones, and the others stay
pub record TakenOff (all : Bool) (v : ReadersView) (m : ℕ) (w : ReadersView) : Type 0 where
  pub chain : List ℕ
  pub gone : List ℕ
  pub kept : List ℕ
  pub set : IsSet v m chain
  pub parts : (x : ℕ) → times x gone + times x kept ≡ times x chain
  pub becomes : w ≡ swept gone (learned m chain v)
  pub knows : chain_of m w.walk ≡ Some kept
  pub goes : all ≡ false → (x : ℕ) → 0 < times x gone → 0 < sum_by (deads x) v.links
  pub stays : (x : ℕ) → 0 < times x kept → 0 < sum_by (alive x) v.links
  pub none : all ≡ true → kept ≡ []

-- on the way the links from the word on are still to be looked at
pub record Going (all : Bool) (v : ReadersView) (m : ℕ) (w : ReadersView) (before word : ℕ) : Type 0 where
  pub chain : List ℕ
  pub gone : List ℕ
  pub kept : List ℕ
  pub rest : List ℕ
  pub set : IsSet v m chain
  pub parts : (x : ℕ) → times x gone + (times x kept + times x rest) ≡ times x chain
  pub becomes : w ≡ swept gone (learned m chain v)
  pub knows : chain_of m w.walk ≡ Some (kept ++ rest)
  pub now : IsSet w m (kept ++ rest)
  pub place : before ≡ led_from w.claims.count w.mods (head_at w.claims.count m) kept
  pub word_is : word ≡ front rest
  pub small : m < w.mods
  pub has : Member m (mods_of w.walk)
  pub goes : all ≡ false → (x : ℕ) → 0 < times x gone → 0 < sum_by (deads x) v.links
  pub stays : (x : ℕ) → 0 < times x kept → 0 < sum_by (alive x) v.links
  pub none : all ≡ true → kept ≡ []

-- how many links of the set are still to be looked at
abbrev pub remaining : ℕ → ReadersView → ℕ → ℕ
remaining m v word = length (from_word word (or_empty (chain_of m v.walk)))

-- all links of all sets are free again, one after another
pub record AllGiven (n : ℕ) (v w : ReadersView) : Type 0 where
  pub gone : List ℕ
  pub claims : w.claims ≡ (swept gone v).claims
  pub links : w.links ≡ (swept gone v).links
  pub mods : w.mods ≡ v.mods
  pub shared : w.shared ≡ v.shared
  pub sets : mods_of w.walk ≡ mods_of v.walk
  -- the sets below n are empty
  pub empty : (m : ℕ) → m < n → (chain_of m w.walk ≡ Some []) × ((x : ℕ) → sum_by (linked m x) w.links ≡ 0)
