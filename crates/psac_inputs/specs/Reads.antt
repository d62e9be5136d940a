-- What reading a part of an input adds to the cells.
use Rattle.std.specs.Prelude.{◌≡◌, ◌⊎◌, ◌++◌, List, Result, Ok, Err}
use Rattle.psac_ops.specs.declared.plain.Plain.{Plain}
use Rattle.psac_inputs.specs.declared.fault.InputFault.{InputFault}
use Rattle.psac_inputs.specs.declared.fault.InputFault.TheVariants.{NoMemory}
use Rattle.psac_inputs.specs.Texts.{Texts}

-- the cells and the texts that were told, or the fault that was; memory may be wanting
abbrev pub Reads : {X : Type 0} → Result (List Plain × Texts) InputFault → Result X InputFault → List Plain → List Plain → Texts → Type 0
Reads told (Ok x) old cells texts = (row : List Plain) × (told ≡ Ok (row, texts)) × (cells ≡ old ++ row)
Reads told (Err e) old cells texts = (e ≡ NoMemory) ⊎ (told ≡ Err e)
