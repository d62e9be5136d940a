-- What is opened, as the engine and the list of texts hold it.
use Rattle.std.specs.Prelude.{◌≡◌, ℕ, List}
use Rattle.psac_syntax.specs.declared.program.Program.{Program}
use Rattle.psac_inputs.specs.Grid.{Grid}
use Rattle.psac_model.specs.declared.ends.Caps.{Caps}
use Rattle.psac_model.specs.Fresh.{World}
use Rattle.psac_engine.specs.Engine.{IsOpened, world_in}
use Rattle.psac_open.specs.declared.opening.Opened.{Opened}
use Rattle.psac_open.specs.Opens.{Opens}

pub record Holds (p : Program) (name bytes : List ℕ) (rows : ℕ) (caps : Caps) (o : Opened) : Type 0 where
  pub world : World
  pub grid : Grid
  pub opens : Opens p name bytes rows world grid o.texts
  pub engine : IsOpened caps grid o.engine
  pub engine_world : world_in o.engine ≡ world
