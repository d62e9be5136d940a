-- What an engine's pass has of the outputs of the run that is kept.
use Rattle.std.specs.Prelude.{◌≡◌, ℕ, ◌+◌, ◌<◌, length, option_map, Some}
use Rattle.psac_ops.specs.declared.plain.Plain.{Plain}
use Rattle.psac_ops.specs.Named.{value_of}
use Rattle.psac_values.specs.declared.view.ValueView.{ValueView}
use Rattle.psac_inputs.specs.Grid.{Grid}
use Rattle.psac_model.specs.declared.ends.Shown.{Shown}
use Rattle.psac_model.specs.Fresh.{World, fresh}
use Rattle.psac_model.specs.Outputs.{shown_of, output_shown}
use Rattle.psac_plain.specs.Opened.{first_output}
use Rattle.psac_stage.specs.Holding.{value_in}

abbrev pub plain_shown : Plain → Shown
plain_shown x = shown_of (value_of x)

-- the value of each output is what the fresh run shows
pub record HasOutputs (w : World) (g : Grid) (v : ValueView) : Type 0 where
  pub each : (i : ℕ) → i < length w.main.dests → option_map plain_shown (value_in (first_output g + i) v.mine) ≡ Some (output_shown (fresh w g).heap i)
