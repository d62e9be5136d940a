-- The rule of a table of values.
use Rattle.std.specs.Prelude.{◌≡◌, ℕ, suc, ◌+◌, ◌-◌, ◌*◌, ◌<◌, ◌≤◌, List, map, length, true, Option, Some, sum_by, IfSome}
use mathlib.Core.Option.{some}
use lib.ListN.{get_elem?}
use Rattle.psac_ops.specs.declared.plain.Handle.{Handle}
use Rattle.psac_slots.specs.Handles.{Member, slot_times}
use Rattle.psac_slots.specs.Divided.{Ways, Rights, Divided, Met}
use Rattle.psac_slots.specs.declared.view.ClaimView.{ClaimView}
use Rattle.psac_slots.specs.Claiming as claiming
use Rattle.psac_values.specs.declared.view.OwnedView.{OwnedView}
use Rattle.psac_values.specs.declared.view.KnownView.{KnownView}
use Rattle.psac_values.specs.declared.view.StateView.{StateView}
use Rattle.psac_values.specs.declared.view.MetView.{MetView}
use Rattle.psac_values.specs.declared.view.ValueView.{ValueView}

-- word 0 is the counter, then come the ring, a state for each made slot, and three words for each slot
abbrev pub state_at : ℕ → ℕ → ℕ
state_at count s = suc (count + s)

abbrev pub value_at : ℕ → ℕ → ℕ → ℕ
value_at count s j = suc (count + (count + (3 * s + j)))

abbrev pub free_word : Handle → ℕ
free_word h = 2 * h.generation

abbrev pub out_word : Handle → ℕ
out_word h = suc (2 * h.generation)

abbrev pub claims_of : ValueView → ClaimView
claims_of v = v.claims

abbrev pub handle_of : StateView → Handle
handle_of t = t.of

abbrev pub ways : Ways OwnedView KnownView
ways = record {
  slot = λ w. w.of.slot;
  of = λ e. e.of.slot;
  label = λ e. e.label;
  lend = λ b w. record { of = w.of; words = w.words; label = b };
  back = λ e. record { of = e.of; words = e.words };
  lent_of = λ b w i. w.of.slot;
  lent_label = λ b w i. b;
  back_slot = λ e i. e.of.slot;
}

abbrev pub rights_of : ValueView → Rights OwnedView KnownView
rights_of v = record { live = v.claims.live; branch = v.claims.branch; alone = v.mine; shared = v.known }

-- the slot is one of the table's, and the words that are known of it stand
pub record Whole (fixed count : ℕ) (words : List ℕ) (h : Handle) (ws : List (Option ℕ)) : Type 0 where
  pub long : length ws ≡ 3
  pub low : h.slot < fixed + count
  pub stands : (j x : ℕ) → get_elem? ws j ≡ some (Some x) → get_elem? words (value_at count h.slot j) ≡ some x

pub record Stated (count : ℕ) (words : List ℕ) (t : StateView) : Type 0 where
  pub low : t.of.slot < count
  pub stands : get_elem? words (state_at count t.of.slot) ≡ some t.word

-- what two passes had when they were joined
abbrev pub Meeting : MetView → Type 0
Meeting m = Met ways m.left m.right m.known_left m.known_right

-- what the rule says of one view
pub record Fits (fixed count : ℕ) (words : List ℕ) (v : ValueView) : Type 0 where
  pub fixed_is : v.claims.live ≡ true → v.fixed ≡ fixed
  pub mine : (w : OwnedView) → Member w v.mine → Whole fixed count words w.of w.words
  pub known : (e : KnownView) → Member e v.known → Whole fixed count words e.of e.words
  pub states : (t : StateView) → Member t v.states → Stated count words t
  pub held_is : map handle_of v.states ≡ v.claims.held
  pub met : IfSome v.met Meeting

-- how often a made slot is held, by all passes
abbrev pub held_times : ℕ → List ValueView → ℕ
held_times s views = sum_by (λ (u : ClaimView). slot_times s u.held) (map claims_of views)

-- what a view has of made slots is held
pub record Made (fixed : ℕ) (views : List ValueView) (v : ValueView) : Type 0 where
  pub mine : (w : OwnedView) → Member w v.mine → fixed ≤ w.of.slot → 0 < held_times (w.of.slot - fixed) views
  pub known : (e : KnownView) → Member e v.known → fixed ≤ e.of.slot → 0 < held_times (e.of.slot - fixed) views

pub record Valued (fixed count counter head : ℕ) (list : List Handle) (words : List ℕ) (views : List ValueView) : Type 0 where
  pub claims : claiming.Claimed count counter head list words (map claims_of views)
  pub rights : Divided ways (map rights_of views)
  pub each : (id : ℕ) (v : ValueView) → get_elem? views id ≡ some v → Fits fixed count words v
  pub made : (id : ℕ) (v : ValueView) → get_elem? views id ≡ some v → Made fixed views v
  pub long : suc (count + (count + 3 * (fixed + count))) ≤ length words
  -- the state of a slot that is still to be drawn says so
  pub free : (k : ℕ) (x : Handle) → counter ≤ k → get_elem? list k ≡ some x → get_elem? words (state_at count x.slot) ≡ some (free_word x)

-- the rule of a table of values
abbrev pub Rule : ℕ → ℕ → List ℕ → List ValueView → Type 0
Rule fixed count words views = (counter head : ℕ) × (list : List Handle) × Valued fixed count counter head list words views
