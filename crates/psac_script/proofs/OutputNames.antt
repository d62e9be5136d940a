-- The names of a world's outputs are those of its program's main.
use Rattle.std.proofs.Common.{◌≡◌, refl, sym, ℕ, List, [], Option, Some, None}
use Rattle.std.specs.Option.{option_map, option_map_or}
use Rattle.psac_ops.specs.declared.plain.TextId.{TextId}
use Rattle.psac_syntax.specs.declared.program.Func.{Func}
use Rattle.psac_syntax.specs.declared.program.Program.{Program}
use Rattle.psac_model.specs.Fresh.{World, main_of, world_of}
use Rattle.psac_report.specs.Session.{output_names}
use Rattle.psac_script.specs.Replies.{names_of, main_names}

names_by : (p : Program) (ids : List TextId) (main : Option Func) (w : World)
    → option_map (λ f. record { program = p; texts = ids; main = f }) main ≡ Some w
    → output_names w ≡ option_map_or (λ f. names_of p f.dests) main []
names_by p ids None w world = cc
names_by p ids (Some f) w world =
    let made : World = record { program = p; texts = ids; main = f } in
    let same : made ≡ w = cc in
    rw (← same) refl

pub output_names_is : (p : Program) (ids : List TextId) (w : World) → world_of p ids ≡ Some w → output_names w ≡ main_names p
output_names_is p ids w world = names_by p ids (main_of p) w world
