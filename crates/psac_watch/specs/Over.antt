-- What holds of a session over the program and the input of some words.
use Rattle.std.specs.Prelude.{◌≡◌, ℕ, List, Some}
use Rattle.psac_base.specs.Outside.{IsFile}
use Rattle.psac_syntax.specs.declared.program.Program.{Program}
use Rattle.psac_inputs.specs.Grid.{Grid}
use Rattle.psac_inputs.specs.Texts.{Texts}
use Rattle.psac_model.specs.declared.ends.Caps.{Caps}
use Rattle.psac_model.specs.Fresh.{World}
use Rattle.psac_report.specs.Session.{State, begun}
use Rattle.psac_command.specs.Asked.{Asked}
use Rattle.psac_open.specs.Accept.{IsAccepted}
use Rattle.psac_open.specs.Loaded.{Files, Words}
use Rattle.psac_open.specs.Opens.{Opens}

-- it holds of the world and the caps, and of the state in which such a session begins
pub record Over (files : Files) (words : Words) (is : World → Caps → State → Type 0) : Type 0 where
  pub asked : Asked
  pub words_are : words ≡ Some asked
  pub program : List ℕ
  pub program_is : IsFile files asked.program program
  pub input : List ℕ
  pub input_is : IsFile files asked.input input
  pub accepted : Program
  pub is_accepted : IsAccepted program accepted
  pub world : World
  pub grid : Grid
  pub texts : Texts
  pub opens : Opens accepted asked.input input asked.settings.rows world grid texts
  pub holds : is world asked.settings.caps (begun grid texts)
