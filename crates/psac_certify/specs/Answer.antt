-- What the calls write of a record: its dump, or the verdict on a text.
use Rattle.std.specs.Prelude.{◌≡◌, ◌⊎◌, ℕ, List, codes}
use Rattle.psac_inputs.specs.Grid.{Grid}
use Rattle.psac_model.specs.declared.ends.CapKind.{CapKind}
use Rattle.psac_model.specs.declared.ends.Caps.{Caps}
use Rattle.psac_model.specs.Fresh.{World, Full, outcome}
use Rattle.psac_report.specs.Dump.{dump_report, verdict, verdict_line}
use Rattle.psac_run.specs.Reported.{Report}

-- the dump of the run's record, or why there is none
abbrev pub IsDump : Report
IsDump w caps g texts script text = text ≡ dump_report w caps g texts

-- the run's record is over a cap, and the text says so
pub record IsTooLarge (w : World) (caps : Caps) (g : Grid) (text : List ℕ) : Type 0 where
  pub over : List CapKind
  pub is_over : outcome w caps g ≡ Full over
  pub is_text : text ≡ codes "full\n"

-- what the script is found to be beside the dump of the fresh run; it may stay open where the run's record is over a cap
abbrev pub IsVerdict : Report
IsVerdict w caps g texts script text = (text ≡ verdict_line (verdict w g texts script)) ⊎ IsTooLarge w caps g text

-- the statuses of a call that reads no script
abbrev pub IsDumpStatus : ℕ → Type 0
IsDumpStatus code = (code ≡ 0) ⊎ (code ≡ 2) ⊎ (code ≡ 3) ⊎ (code ≡ 4) ⊎ (code ≡ 5) ⊎ (code ≡ 7) ⊎ (code ≡ 9)
