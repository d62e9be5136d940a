-- What a look at the table of values tells of a handle.
use Rattle.std.specs.Prelude.{◌≡◌, ℕ, ◌+◌, nat_le, nat_lt, Bool, true, false, not, ◌&&◌, List, Some}
use Rattle.psac_ops.specs.declared.plain.Handle.{Handle}
use Rattle.psac_ops.specs.declared.plain.Plain.{Plain}
use Rattle.psac_ops.specs.Words.{of_words}
use Rattle.psac_values.specs.declared.view.ValueView.{ValueView}
use Rattle.psac_values.specs.Knowing.{Knows, IsLive}
use Rattle.psac_engine.specs.declared.held.Held.{Held}
use Rattle.psac_engine.specs.declared.held.Held.TheVariants.{Value, Stale, Unwritten}

-- the pass knows the words of the modifiable, and they are those of the value
abbrev pub KnownAs : ValueView → Handle → Plain → Type 0
KnownAs v m x = (ws : List ℕ) × Knows v m ws × (of_words ws ≡ Some x)

-- the slot is that of an output, and no run is kept
abbrev pub is_open : Bool → ℕ → ℕ → ℕ → Bool
is_open kept first outs s = not kept && (nat_le first s && nat_lt s (first + outs))

-- what is told of a handle, where its slot is open or not
abbrev pub Looks : Bool → Handle → ValueView → Held → Type 0
Looks un m v (Value x) = IsLive m v × (un ≡ false) × KnownAs v m x
Looks un m v Stale = IsLive m v → ⊥
Looks un m v Unwritten = IsLive m v × (un ≡ true)
