-- What a run anew leaves, once its tables are regained.
use Rattle.std.specs.Prelude.{ℕ, ◌<◌, [], length, None}
use Rattle.psac_fork.specs.declared.tables.Pass.{Pass}
use Rattle.psac_fork.specs.declared.tables.Tables.{Tables}
use Rattle.psac_inputs.specs.Grid.{Grid, IsGrid}
use Rattle.psac_model.specs.declared.ends.Caps.{Caps}
use Rattle.psac_model.specs.Fresh.{World, levels}
use Rattle.psac_laws.proofs.Opening.{IsChecked}
use Rattle.psac_traced.specs.Traced.{traced}
use Rattle.psac_cut.specs.CutShort.{cut_short}
use Rattle.psac_record.specs.Kept.{Kept}
use Rattle.psac_trace.specs.Told.{Ended, Good}
use Rattle.psac_trace.specs.Running.{Leaves}
use Rattle.psac_stage.specs.Recorded.{setting_at, places_at, Recorded}
use Rattle.psac_stage.specs.Resting.{MayRun}
use Rattle.psac_stage.specs.Settling.{Settles}

-- what a run of main's body over the grid leaves
abbrev pub LeavesMain : World → Grid → Tables → Pass → Pass → Ended Kept → Type 0
LeavesMain w g t p q e =
    Leaves (setting_at w g) (traced (setting_at w g) w.program.funcs levels) (cut_short (setting_at w g) w.program.funcs levels)
    [] t w.main.body (places_at w g) None p q e

-- a run anew that is done leaves its record beside a pass at rest
abbrev pub FirstStands : Type 0
FirstStands =
    (w : World) (g : Grid) (caps : Caps) (age : ℕ) (t : Tables) (k : Kept) (p q z : Pass)
    → IsGrid g → IsChecked w → caps.nodes < 4294967296 → MayRun (length w.main.dests) g caps age t p
    → LeavesMain w g t p q (Good k) → Settles q z
    → Recorded w g k z.values.knows z.readers.knows z.marks.knows
