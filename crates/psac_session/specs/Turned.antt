-- What a turn of a session came to.
use Rattle.std.specs.Prelude.{◌≡◌, ℕ, true, false, List, Option, IfSome}
use Rattle.psac_base.specs.Outside.{AppendedPart}
use Rattle.psac_model.specs.Fresh.{World}
use Rattle.psac_report.specs.Script.{command_of}
use Rattle.psac_report.specs.Session.{State, Reply, reply_text, shown_now}
use Rattle.psac_report.specs.Steps.{Step, is_quit}
use Rattle.psac_session.specs.Heard.{Adds, Heard, IsNext, Outward, Shows, heard_by, is_commit}

-- the text of a reply
abbrev pub text_of : World → State × Reply → List ℕ
text_of w after = reply_text w after.0.texts after.1

-- where it is told what is to be heard, what the line shows comes next, if it is a commit
abbrev pub IsExpected : World → Step → State → List ℕ → Option Shows → Option Shows → Type 0
IsExpected w step s line course heard =
    IfSome course (λ told. is_commit line ≡ true → IsNext told heard (shown_now w (step s (command_of line)).0))

-- the line isn't `quit`, the state is the step's, the commit was heard and the reply was written
pub record TookLine (w : World) (step : Step) (s s' : State) (line : List ℕ) (before now : Outward) : Type 0 where
  pub other : is_quit line ≡ false
  pub state : s' ≡ (step s (command_of line)).0
  pub adds : Adds before now (text_of w (step s (command_of line))) (heard_by w (command_of line) (step s (command_of line)).0)

-- the line isn't `quit`, its commit was heard, and a first part of its reply was written
pub record BrokeOff (w : World) (step : Step) (s : State) (line : List ℕ) (before now : Outward) : Type 0 where
  pub other : is_quit line ≡ false
  pub written : AppendedPart before.0 now.0 (text_of w (step s (command_of line)))
  pub heard : Heard before.1 now.1 (heard_by w (command_of line) (step s (command_of line)).0)
