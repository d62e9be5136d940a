-- What is shown of a run's outputs.
use Rattle.std.specs.Prelude.{ℕ, suc, List, [], ◌∷◌, option_map, unwrap_or}
use Rattle.psac_ops.specs.Value.{Value, nil, bool, int, text, ref, pair}
use Rattle.psac_model.specs.declared.ends.Shown.{Shown}
use Rattle.psac_model.specs.declared.ends.Shown.TheVariants as shown
use Rattle.psac_model.specs.Names.{Out, Heap, held}

-- what is shown of a value
abbrev pub shown_of : {N : Type 0} → Value N → Shown
shown_of nil = shown.Nil
shown_of (bool b) = shown.Bool b
shown_of (int i) = shown.Int i
shown_of (text id len) = shown.Text (record { id = id; len = len })
shown_of (ref n) = shown.Ref
shown_of (pair m n) = shown.Pair

-- an output that isn't written is shown as Nil
abbrev pub output_shown : Heap → ℕ → Shown
output_shown heap i = unwrap_or (option_map shown_of (held heap (Out i))) shown.Nil

-- what is shown of so many outputs, from the i-th on
abbrev pub outputs_from : Heap → ℕ → List ℕ → List Shown
outputs_from heap i [] = []
outputs_from heap i (d ∷ ds) = output_shown heap i ∷ outputs_from heap (suc i) ds
