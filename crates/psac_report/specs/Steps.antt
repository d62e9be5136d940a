-- A session by a step of its own.
use Rattle.std.specs.Prelude.{ℕ, Bool, true, false, List, [], ◌∷◌, Option, Some, None}
use Rattle.psac_model.specs.Fresh.{World}
use Rattle.psac_report.specs.Script.{Command, Quit, command_of}
use Rattle.psac_report.specs.Session.{State, Reply}
use Rattle.psac_report.specs.Report.{written_then}

-- the state after a command, if the line is one, and the reply
abbrev pub Step : Type 0
Step = State → Option Command → State × Reply

-- the reply to a command, and then what is written after it; nothing from `quit` on
abbrev pub answered_by : World → Step → (State → List ℕ) → State → Option Command → List ℕ
answered_by w step more s (Some Quit) = []
answered_by w step more s command = written_then w more (step s command)

-- the replies to lines up to `quit` or the end
abbrev pub replies_by : World → Step → List (List ℕ) → State → List ℕ
replies_by w step [] s = []
replies_by w step (line ∷ more) s = answered_by w step (replies_by w step more) s (command_of line)

abbrev pub quits : Option Command → Bool
quits (Some Quit) = true
quits command = false

-- the line ends the script
abbrev pub is_quit : List ℕ → Bool
is_quit line = quits (command_of line)
