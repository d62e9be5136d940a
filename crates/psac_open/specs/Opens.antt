-- What a program and an input open.
use Rattle.std.specs.Prelude.{◌≡◌, ℕ, List, [], Some, Ok}
use Rattle.psac_ops.specs.declared.plain.TextId.{TextId}
use Rattle.psac_syntax.specs.declared.program.Program.{Program}
use Rattle.psac_inputs.specs.Grid.{Grid}
use Rattle.psac_inputs.specs.Texts.{Texts, all_added}
use Rattle.psac_model.specs.Fresh.{World, world_of}
use Rattle.psac_open.specs.Loads.{Loads, RefusesInput}

-- the texts of the program enter the list first
pub record Enters (p : Program) (ids : List TextId) (texts : Texts) : Type 0 where
  pub added : all_added p.texts [] ≡ Ok (ids, texts)

-- the program with its texts, the grid of the input with room for so many rows, and all texts
pub record Opens (p : Program) (name bytes : List ℕ) (rows : ℕ) (w : World) (g : Grid) (texts : Texts) : Type 0 where
  pub ids : List TextId
  pub begun : Texts
  pub enters : Enters p ids begun
  pub world : world_of p ids ≡ Some w
  pub loads : Loads name bytes rows begun g texts

-- the line of an input that isn't taken beside the program's texts
pub record RefusesBeside (p : Program) (name bytes text : List ℕ) : Type 0 where
  pub ids : List TextId
  pub begun : Texts
  pub enters : Enters p ids begun
  pub refuses : RefusesInput name bytes begun text
