-- What a call opens for words, or why it opens nothing.
use Rattle.std.specs.Prelude.{◌≡◌, ◌⊎◌, ℕ, List}
use Rattle.psac_base.specs.Outside.{IsFile}
use Rattle.psac_syntax.specs.declared.program.Program.{Program}
use Rattle.psac_command.specs.Asked.{Asked}
use Rattle.psac_open.specs.declared.opening.Opened.{Opened}
use Rattle.psac_open.specs.Accept.{Refuses}
use Rattle.psac_open.specs.Loaded.{Files, HasProgram}
use Rattle.psac_open.specs.Opens.{RefusesBeside}
use Rattle.psac_open.specs.Views.{Holds}
use Rattle.psac_open.specs.declared.named.Unopened.{Unopened}
use Rattle.psac_open.specs.declared.named.Unopened.TheVariants as unopened

-- the program and the input of the words are opened
pub record Began (files : Files) (a : Asked) (o : Opened) : Type 0 where
  pub accepted : Program
  pub program : HasProgram files a.program accepted
  pub input : List ℕ
  pub input_is : IsFile files a.input input
  pub holds : Holds accepted a.input input a.settings.rows a.settings.caps o

-- the program isn't accepted, or the input isn't taken: the line, and the status
pub data Refused (files : Files) (a : Asked) (line : List ℕ) (code : ℕ) : Type 0 where
  OfProgram : (program : List ℕ) → IsFile files a.program program → Refuses program line → code ≡ 4
      → Refused files a line code
  OfInput : (input : List ℕ) (p : Program) → HasProgram files a.program p → IsFile files a.input input
      → RefusesBeside p a.input input line → code ≡ 5
      → Refused files a line code

abbrev pub WasRefused : Files → Asked → Unopened → Type 0
WasRefused files a (unopened.Refused line code) = ((code ≡ 4) ⊎ (code ≡ 5)) × Refused files a line.items code
WasRefused files a (unopened.Ended status) = Unit {0}

-- a load failed, or memory is wanting
abbrev pub WasEnded : Type 0 → Unopened → Type 0
WasEnded failed (unopened.Refused line code) = Unit {0}
WasEnded failed (unopened.Ended status) = ((status.code ≡ 3) × failed) ⊎ (status.code ≡ 9)
