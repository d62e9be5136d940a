-- What holds of every engine, by what it keeps.
use Rattle.std.specs.Prelude.{List, [], unwrap_or}
use Rattle.psac_ops.specs.declared.plain.TextId.{TextId}
use Rattle.psac_syntax.specs.declared.program.Func.{Func}
use Rattle.psac_syntax.specs.declared.program.Program.{Program}
use Rattle.psac_inputs.specs.Grid.{Grid}
use Rattle.psac_model.specs.declared.ends.CapKind.{CapKind}
use Rattle.psac_model.specs.declared.ends.Caps.{Caps}
use Rattle.psac_model.specs.declared.ends.Shown.{Shown}
use Rattle.psac_model.specs.Tree.{size_of}
use Rattle.psac_model.specs.Fresh.{World, fresh, main_of, over}
use Rattle.psac_model.specs.Outputs.{outputs_from}

-- a function that does nothing stands for a main that isn't there, which no engine lacks
abbrev pub no_func : Func
no_func = record { name = 0; values = []; dests = []; body = []; line = 0 }

abbrev pub world_with : Program → List TextId → World
world_with p texts = record { program = p; texts = texts; main = unwrap_or (main_of p) no_func }

-- what is shown of the fresh run
abbrev pub fresh_outputs : World → Grid → List Shown
fresh_outputs w g = outputs_from (fresh w g).heap 0 w.main.dests

-- what the fresh run has too much of
abbrev pub fresh_over : World → Grid → Caps → List CapKind
fresh_over w g caps = over (size_of (fresh w g).tree) caps
