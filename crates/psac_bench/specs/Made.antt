-- What a bench opens, and its report.
use Rattle.std.specs.Prelude.{◌≡◌, ℕ, List, Option}
use Rattle.psac_base.specs.Outside.{Appended, AppendedPart}
use Rattle.psac_syntax.specs.declared.program.Program.{Program}
use Rattle.psac_inputs.specs.Grid.{Grid}
use Rattle.psac_model.specs.declared.ends.Caps.{Caps}
use Rattle.psac_model.specs.Fresh.{World}
use Rattle.psac_command.specs.Bench.{BenchAsked}
use Rattle.psac_engine.specs.Engine.{IsOpened, world_in}
use Rattle.psac_open.specs.declared.opening.Opened.{Opened}
use Rattle.psac_bench.specs.Answer.{IsReport, OpensMade}

-- what is opened, as the engine and the list of texts hold it
pub record HoldsMade (p : Program) (cells rows : ℕ) (caps : Caps) (o : Opened) : Type 0 where
  pub world : World
  pub grid : Grid
  pub opens : OpensMade p cells rows world grid o.texts
  pub engine : IsOpened caps grid o.engine
  pub engine_world : world_in o.engine ≡ world

-- the report was written
pub record WroteReport (p : Program) (a : BenchAsked) (before now : Option (List ℕ)) : Type 0 where
  pub text : List ℕ
  pub is_report : IsReport p a text
  pub written : Appended before now text

-- a first part of it was written
pub record WroteReportPart (p : Program) (a : BenchAsked) (before now : Option (List ℕ)) : Type 0 where
  pub text : List ℕ
  pub is_report : IsReport p a text
  pub written : AppendedPart before now text
