-- What the rule of reader sets gives, in plain sentences.
use Rattle.std.specs.Prelude.{◌≡◌, ◌≢◌, ℕ, ◌+◌, ◌<◌, ◌≤◌, List, map, drop, length, true, sum_by}
use mathlib.Core.Option.{some}
use lib.ListN.{get_elem?}
use Rattle.psac_slots.specs.Branches.{is_prefix}
use Rattle.psac_slots.specs.Handles.{Member, slot_times}
use Rattle.psac_slots.specs.Promised as slots
use Rattle.psac_readers.specs.declared.view.Stage.TheVariants.{UnderWay}
use Rattle.psac_readers.specs.declared.view.LinkView.{LinkView}
use Rattle.psac_readers.specs.declared.view.SharedView.{SharedView}
use Rattle.psac_readers.specs.declared.view.ReadersView.{ReadersView}
use Rattle.psac_readers.specs.Chained.{head_at, next_at, dead_at, Follows, named, linked, deads, times, mods_of, claims_of}
use Rattle.psac_readers.specs.Steps.{is_settled}

pub record Promised (links mods : ℕ) (words : List ℕ) (views : List ReadersView) : Type 0 where
  -- what the rule of claims gives
  pub claims : slots.Promised words (map claims_of views)
  -- no pass has a link that is still to be drawn
  pub free_unlinked : (i : ℕ) (v : ReadersView) (l : ℕ) → get_elem? views i ≡ some v → 0 < slot_times l (drop claims.counter claims.list) → sum_by (named l) v.links ≡ 0
  -- the word that leads on from a link
  pub next : ℕ → ℕ
  -- the links of a set, from its head on
  pub chain : ℕ → List ℕ
  -- a link that is in its set, or dead, is followed by the one that its stored word names
  pub stored_next : (i : ℕ) (v : ReadersView) (k : LinkView) → get_elem? views i ≡ some v → Member k v.links → is_settled k.stage ≡ 1 → get_elem? words (next_at links mods k.link) ≡ some (next k.link)
  -- one that is under way is followed by the old head, which its pass keeps
  pub kept_next : (i : ℕ) (v : ReadersView) (k : LinkView) (n : ℕ) → get_elem? views i ≡ some v → Member k v.links → k.stage ≡ UnderWay n → next k.link ≡ n
  -- from the head on stand the set's links, and then the end
  pub from_head : (m : ℕ) → m < mods → (w : ℕ) × (get_elem? words (head_at links m) ≡ some w) × Follows next w (chain m)
  -- each stands once
  pub once : (m l : ℕ) → times l (chain m) ≤ 1
  -- the links of a set that one pass alone has are that pass's
  pub private_whole : (i : ℕ) (v : ReadersView) (m l : ℕ) → get_elem? views i ≡ some v → Member m (mods_of v.walk) → times l (chain m) ≡ sum_by (linked m l) v.links
  -- the links of any set are those that the passes have in it
  pub shared_whole : (m l : ℕ) → times l (chain m) ≡ sum_by (λ (v : ReadersView). sum_by (linked m l) v.links) views
  -- a set that one pass alone has is no other's, and shared with none
  pub private_alone : (i j : ℕ) (v u : ReadersView) (m y : ℕ) → get_elem? views i ≡ some v → get_elem? views j ≡ some u → i ≢ j → Member m (mods_of v.walk) → Member y (mods_of u.walk) → m ≢ y
  pub private_unshared : (i j : ℕ) (v u : ReadersView) (m : ℕ) (e : SharedView) → get_elem? views i ≡ some v → get_elem? views j ≡ some u → Member m (mods_of v.walk) → Member e u.shared → e.of ≢ m
  -- a label is a proper prefix of the branch of each pass that has it
  pub labels : (i : ℕ) (v : ReadersView) (e : SharedView) → get_elem? views i ≡ some v → Member e v.shared → (is_prefix e.label v.claims.branch ≡ true) × (length e.label < length v.claims.branch)
  -- a shared set has one label
  pub one_label : (i j : ℕ) (v u : ReadersView) (e f : SharedView) → get_elem? views i ≡ some v → get_elem? views j ≡ some u → Member e v.shared → Member f u.shared → e.of ≡ f.of → e ≡ f
  -- and each live pass below it has the set
  pub below : (i j : ℕ) (v u : ReadersView) (e : SharedView) → get_elem? views i ≡ some v → get_elem? views j ≡ some u → i ≢ j → Member e v.shared → u.claims.live ≡ true → is_prefix e.label u.claims.branch ≡ true → Member e u.shared
  -- a link is one pass's
  pub one_owner : (i j : ℕ) (v u : ReadersView) (l : ℕ) → get_elem? views i ≡ some v → get_elem? views j ≡ some u → i ≢ j → sum_by (named l) v.links + sum_by (named l) u.links ≤ 1
  -- the dead word of a link is 1 exactly where a pass has it as dead, and else 0
  pub dead_word : (l : ℕ) → l < links → get_elem? words (dead_at links mods l) ≡ some (sum_by (λ (v : ReadersView). sum_by (deads l) v.links) views)
  pub dead_or_not : (l : ℕ) → sum_by (λ (v : ReadersView). sum_by (deads l) v.links) views ≤ 1
