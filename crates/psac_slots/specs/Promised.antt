-- What the rule of claims gives, in plain sentences.
use Rattle.std.specs.Prelude.{◌≡◌, ◌≢◌, ℕ, ◌+◌, ◌^◌, ◌<◌, ◌≤◌, List, drop, sum_by}
use mathlib.Core.Option.{some}
use lib.ListN.{get_elem?}
use Rattle.psac_slots.specs.declared.view.ClaimView.{ClaimView}
use Rattle.psac_ops.specs.declared.plain.Handle.{Handle}
use Rattle.psac_slots.specs.Handles.{slot_times, IsDistinct}
use Rattle.psac_slots.specs.Claiming.{times, Apart}

pub record Promised (words : List ℕ) (views : List ClaimView) : Type 0 where
  pub counter : ℕ
  pub list : List Handle
  pub counter_is : get_elem? words 0 ≡ some counter
  -- a fetch_add doesn't wrap
  pub no_wrap : counter + 1 < 2 ^ 64
  -- of two live passes neither branch begins the other
  pub apart : Apart views
  -- an index below the counter was drawn once, by one pass
  pub drawn_once : (k : ℕ) → k < counter → sum_by (λ (v : ClaimView). times k v.drawn) views ≡ 1
  -- and no other index was drawn
  pub drawn_below : (k : ℕ) → counter ≤ k → sum_by (λ (v : ClaimView). times k v.drawn) views ≡ 0
  -- no slot is held by two passes
  pub one_holder : (i j : ℕ) (v w : ClaimView) (s : ℕ) → get_elem? views i ≡ some v → get_elem? views j ≡ some w → i ≢ j → slot_times s v.held + slot_times s w.held ≤ 1
  -- no slot is still to be drawn twice
  pub free_once : IsDistinct (drop counter list)
  -- a slot that is still to be drawn is held by none
  pub free_unheld : (i : ℕ) (v : ClaimView) (s : ℕ) → get_elem? views i ≡ some v → 0 < slot_times s (drop counter list) → slot_times s v.held ≡ 0
