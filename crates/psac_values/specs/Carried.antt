-- What a pass of values carries at run time, beside its view.
use Rattle.std.specs.Prelude.{◌≡◌, ℕ, suc, ◌+◌, ◌*◌, ◌<◌, ◌≤◌, map, length, true, None}
use Rattle.psac_slots.specs.Handles.{Member}
use Rattle.psac_values.specs.declared.view.ValueView.{ValueView}
use Rattle.psac_values.specs.declared.view.OwnedView.{OwnedView}
use Rattle.psac_values.specs.declared.view.KnownView.{KnownView}
use Rattle.psac_values.specs.declared.view.StateView.{StateView}
use Rattle.psac_values.specs.Valued.{out_word, handle_of}

pub record Carries (fixed count head room words : ℕ) (v : ValueView) : Type 0 where
  pub live : v.claims.live ≡ true
  pub fixed_is : v.fixed ≡ fixed
  pub count_is : v.claims.count ≡ count
  pub head_is : v.claims.head ≡ head
  pub room_is : length v.claims.list ≡ room
  pub room_fits : room ≤ count
  pub head_fits : head ≤ count
  pub words_is : suc (count + (count + 3 * (fixed + count))) ≡ words
  pub small : fixed + count < 4294967296
  pub settled : v.met ≡ None
  -- each claimed slot is out
  pub out : (t : StateView) → Member t v.states → (t.word ≡ out_word t.of) × (t.of.slot < count)
  pub held_is : map handle_of v.states ≡ v.claims.held
  -- three words for each slot, and the slot is one of the table's
  pub mine : (w : OwnedView) → Member w v.mine → (length w.words ≡ 3) × (w.of.slot < fixed + count)
  pub known : (e : KnownView) → Member e v.known → (length e.words ≡ 3) × (e.of.slot < fixed + count)
