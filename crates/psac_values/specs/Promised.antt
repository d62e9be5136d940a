-- What the rule of values gives, in plain sentences.
use Rattle.std.specs.Prelude.{◌≡◌, ◌≢◌, ℕ, ◌+◌, ◌<◌, List, map, drop, Some}
use mathlib.Core.Option.{some}
use lib.ListN.{get_elem?}
use Rattle.psac_slots.specs.Handles.{Member, slot_times}
use Rattle.psac_slots.specs.Promised as slots
use Rattle.psac_values.specs.declared.view.OwnedView.{OwnedView}
use Rattle.psac_values.specs.declared.view.KnownView.{KnownView}
use Rattle.psac_values.specs.declared.view.ValueView.{ValueView}
use Rattle.psac_values.specs.Valued.{claims_of, value_at}
use Rattle.psac_values.specs.Steps.{Lacks}

pub record Promised (fixed count : ℕ) (words : List ℕ) (views : List ValueView) : Type 0 where
  -- what the rule of claims gives
  pub claims : slots.Promised words (map claims_of views)
  -- a made slot that is still to be drawn no pass has or knows
  pub free_unknown : (i : ℕ) (v : ValueView) (s : ℕ) → get_elem? views i ≡ some v → 0 < slot_times s (drop claims.counter claims.list) → Lacks v (fixed + s)
  -- a word that a pass knows of what it may write stands in the table
  pub mine_stands : (i : ℕ) (v : ValueView) (w : OwnedView) (j x : ℕ) → get_elem? views i ≡ some v → Member w v.mine → get_elem? w.words j ≡ some (Some x) → get_elem? words (value_at count w.of.slot j) ≡ some x
  -- and so does one that it knows beside others
  pub known_stands : (i : ℕ) (v : ValueView) (e : KnownView) (j x : ℕ) → get_elem? views i ≡ some v → Member e v.known → get_elem? e.words j ≡ some (Some x) → get_elem? words (value_at count e.of.slot j) ≡ some x
  -- no slot may be written by two passes
  pub one_writer : (i j : ℕ) (v u : ValueView) (w x : OwnedView) → get_elem? views i ≡ some v → get_elem? views j ≡ some u → i ≢ j → Member w v.mine → Member x u.mine → w.of.slot ≢ x.of.slot
  -- what one pass may write no other knows
  pub writer_alone : (i j : ℕ) (v u : ValueView) (w : OwnedView) (e : KnownView) → get_elem? views i ≡ some v → get_elem? views j ≡ some u → i ≢ j → Member w v.mine → Member e u.known → e.of.slot ≢ w.of.slot
