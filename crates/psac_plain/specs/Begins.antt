-- What a run begins with.
use Rattle.std.specs.Prelude.{◌≡◌, ℕ, List, [], length}
use Rattle.psac_ops.specs.declared.plain.TextId.{TextId}
use Rattle.psac_inputs.specs.Grid.{Grid}
use Rattle.psac_plain.specs.declared.begin.Begun.{Begun}
use Rattle.psac_plain.specs.Slots.{env_of, setting_by}
use Rattle.psac_plain.specs.Running.{places_of}
use Rattle.psac_plain.specs.Opened.{first_output, opened_places, output_env, setting_over}

pub record Begins (g : Grid) (dests : List ℕ) (texts : List TextId) (b : Begun) : Type 0 where
  pub setting : setting_by b.opening ≡ setting_over g texts (length dests)
  pub env : env_of b.env.items ≡ output_env (first_output g) dests []
  pub places : places_of b.heap.items ≡ opened_places g dests
