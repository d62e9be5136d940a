-- What a pass may write and what it knows, and what each call makes of that.
use Rattle.std.specs.Prelude.{◌≡◌, ◌⊎◌, ℕ, ◌-◌, ◌<◌, List, [], ◌∷◌, map, length, cond, ◌==◌, Option, Some, slice_index}
use Rattle.psac_ops.specs.declared.plain.Handle.{Handle}
use Rattle.psac_slots.specs.Handles.{Member}
use Rattle.psac_slots.specs.Claiming as claiming
use Rattle.psac_values.specs.declared.view.OwnedView.{OwnedView}
use Rattle.psac_values.specs.declared.view.KnownView.{KnownView}
use Rattle.psac_values.specs.declared.view.ValueView.{ValueView}
use Rattle.psac_values.specs.Steps.{Lacks, drew, marked, made_handle}
use Rattle.psac_values.specs.Valued.{out_word}

-- the pass alone may write the modifiable
abbrev pub Has : ValueView → Handle → Type 0
Has v m = (w : OwnedView) × Member w v.mine × (w.of ≡ m)

-- these are all its words
abbrev pub all_words : List ℕ → List (Option ℕ)
all_words ws = map (λ x. Some x) ws

-- the pass knows these words of the modifiable
abbrev pub Knows : ValueView → Handle → List ℕ → Type 0
Knows v m ws = ((w : OwnedView) × Member w v.mine × (w.of ≡ m) × (w.words ≡ all_words ws)) ⊎ ((e : KnownView) × Member e v.known × (e.of ≡ m) × (e.words ≡ all_words ws))

-- the words of an array of three
abbrev pub three_of : List ℕ → List ℕ
three_of ws = slice_index ws 0 ∷ slice_index ws 1 ∷ slice_index ws 2 ∷ []

abbrev pub rewritten : ℕ → List ℕ → OwnedView → OwnedView
rewritten s ws e = record { of = e.of; words = cond (e.of.slot == s) (all_words ws) e.words }

-- the words of a slot are new
abbrev pub wrote : ℕ → List ℕ → ValueView → ValueView
wrote s ws v = record v { mine = map (rewritten s ws) v.mine }

-- a claim drew the index n, and its slot is out
abbrev pub took : ValueView → ℕ → Handle → ValueView
took v n h = marked h.slot (out_word h) (drew v n)

abbrev pub Claims : ValueView → Handle → ValueView → Type 0
Claims v m w = (n : ℕ) × (h : Handle) × (n < length v.claims.list) × (claiming.entry v.claims.list n ≡ h ∷ []) × (m ≡ made_handle v.fixed h) × (w ≡ took v n h)

-- two passes, and what they are together: what one has the other lacks, and what one has or knows both together have or know
pub record United (l r j : ValueView) : Type 0 where
  pub left_alone : (w : OwnedView) → Member w l.mine → Lacks r w.of.slot
  pub right_alone : (w : OwnedView) → Member w r.mine → Lacks l w.of.slot
  pub has : (m : Handle) → Has l m ⊎ Has r m → Has j m
  pub knows : (m : Handle) (ws : List ℕ) → Knows l m ws ⊎ Knows r m ws → Knows j m ws

-- a made slot is out, and this is its handle
abbrev pub IsOut : Handle → ValueView → Type 0
IsOut m v = (h : Handle) × Member h v.claims.held × (made_handle v.fixed h ≡ m)

-- a modifiable has this slot and generation
abbrev pub IsLive : Handle → ValueView → Type 0
IsLive m v = ((m.slot < v.fixed) × (m.generation ≡ 0)) ⊎ IsOut m v

-- the slot as the claims know it
abbrev pub claimed_as : Handle → ValueView → Handle
claimed_as m v = record { slot = m.slot - v.fixed; generation = m.generation }
