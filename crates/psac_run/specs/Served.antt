-- What is done with an engine.
use Rattle.std.specs.Prelude.{◌≡◌, ◌⊎◌, ℕ, List, Option}
use Rattle.psac_base.specs.Outside.{Appended, AppendedPart}
use Rattle.psac_base.specs.Feeds.{lines_of}
use Rattle.psac_inputs.specs.Texts.{Texts}
use Rattle.psac_report.specs.Report.{once_report}
use Rattle.psac_command.specs.declared.request.Mode.{Mode}
use Rattle.psac_command.specs.declared.request.Mode.TheVariants.{Once, Session}
use Rattle.psac_engine.specs.declared.engine.Engine.{Engine}
use Rattle.psac_engine.specs.Engine.{caps_in, grid_in, world_in}
use Rattle.psac_session.specs.Answered.{IsScript, answer_of}

-- the report over what an engine holds
abbrev pub report_in : Mode → Engine → Texts → List ℕ → List ℕ
report_in Once e texts script = once_report (world_in e) (caps_in e) (grid_in e) texts
report_in Session e texts script = answer_of e texts (lines_of script)

-- the report was written
pub record Served (mode : Mode) (e : Engine) (texts : Texts) (told before now : Option (List ℕ)) : Type 0 where
  pub script : List ℕ
  pub is_script : IsScript told script
  pub written : Appended before now (report_in mode e texts script)

-- a first part of the report was written
pub record ServedPart (mode : Mode) (e : Engine) (texts : Texts) (told before now : Option (List ℕ)) : Type 0 where
  pub script : List ℕ
  pub is_script : IsScript told script
  pub written : AppendedPart before now (report_in mode e texts script)

-- the statuses of a run or a session
abbrev pub IsServed : ℕ → Type 0
IsServed code = (code ≡ 0) ⊎ (code ≡ 6) ⊎ (code ≡ 7) ⊎ (code ≡ 8) ⊎ (code ≡ 9)
