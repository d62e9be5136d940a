-- What is shown of the values that a pass knows.
use Rattle.std.specs.Prelude.{◌≡◌, ℕ, zero, suc, ◌+◌, ◌<◌, List, [], ◌∷◌, Option, IsSome, option_map}
use Rattle.psac_values.specs.declared.view.ValueView.{ValueView}
use Rattle.psac_model.specs.declared.ends.Shown.{Shown}
use Rattle.psac_stage.specs.Holding.{value_in}
use Rattle.psac_engine.specs.Outputs.{plain_shown}

-- what is shown of the value of a slot, where the pass knows one
abbrev pub shown_at : ℕ → ValueView → Option Shown
shown_at s v = option_map plain_shown (value_in s v.mine)

-- and of so many slots, from one on
abbrev pub shown_from : ℕ → ℕ → ValueView → List (Option Shown)
shown_from s zero v = []
shown_from s (suc n) v = shown_at s v ∷ shown_from (suc s) n v

-- each of so many slots, from one on, has a value
abbrev pub HaveValues : ℕ → ℕ → ValueView → Type 0
HaveValues first many v = (i : ℕ) → i < many → IsSome (shown_at (first + i) v)

-- nothing but how often the pass looked has changed
abbrev pub OnlyLooked : ValueView → ValueView → Type 0
OnlyLooked v u = u ≡ record v { looks = u.looks }
