-- What the top call promises.
use Rattle.std.specs.Prelude.{◌≡◌, ℕ, List, Option, Some, None}
use Rattle.psac_base.specs.Outside.{IsFile}
use Rattle.psac_syntax.specs.declared.program.Program.{Program}
use Rattle.psac_inputs.specs.Grid.{Grid}
use Rattle.psac_inputs.specs.Texts.{Texts}
use Rattle.psac_model.specs.declared.ends.Caps.{Caps}
use Rattle.psac_model.specs.Fresh.{World}
use Rattle.psac_report.specs.Report.{once_report, replies, session_report}
use Rattle.psac_report.specs.Session.{begun}
use Rattle.psac_command.specs.declared.request.Mode.{Mode}
use Rattle.psac_command.specs.declared.request.Mode.TheVariants.{Once, Session}
use Rattle.psac_command.specs.Asked.{Asked}
use Rattle.psac_session.specs.Answered.{Answer}
use Rattle.psac_open.specs.Accept.{IsAccepted}
use Rattle.psac_open.specs.Loaded.{Files, Words}
use Rattle.psac_open.specs.Opens.{Opens}
use Rattle.psac_run.specs.Reported.{Report, Wrote as WroteOf, WrotePart as WrotePartOf, WroteSome as WroteSomeOf}

-- the report of one run, or of a session over a script
abbrev pub report_of : Mode → World → Caps → Grid → Texts → List ℕ → List ℕ
report_of Once w caps g texts script = once_report w caps g texts
report_of Session w caps g texts script = session_report w caps g texts script

-- the text is that report, as the words ask
abbrev pub IsReport : Words → Report
IsReport None w caps g texts script text = ⊥
IsReport (Some a) w caps g texts script text = text ≡ report_of a.mode w caps g texts script

-- the text of that status was written whole, a first part of the text of some status, or such a part or nothing
abbrev pub Wrote : ℕ → Files → Words → Option (List ℕ) → Option (List ℕ) → Option (List ℕ) → Type 0
Wrote status files words told before now = WroteOf (IsReport words) status files words told before now

abbrev pub WrotePart : Files → Words → Option (List ℕ) → Option (List ℕ) → Option (List ℕ) → Type 0
WrotePart files words told before now = WrotePartOf (IsReport words) files words told before now

abbrev pub WroteSome : Files → Words → Option (List ℕ) → Option (List ℕ) → Option (List ℕ) → Type 0
WroteSome files words told before now = WroteSomeOf (IsReport words) files words told before now

-- what a session answers to lines
abbrev pub answers_of : World → Caps → Grid → Texts → Answer
answers_of w caps g texts lines = replies w caps lines (begun g texts)

-- a session was held over the program and the input, and this holds of its answers
pub record Held (files : Files) (words : Words) (is : Answer → Type 0) : Type 0 where
  pub asked : Asked
  pub words_are : words ≡ Some asked
  pub mode_is : asked.mode ≡ Session
  pub program : List ℕ
  pub program_is : IsFile files asked.program program
  pub input : List ℕ
  pub input_is : IsFile files asked.input input
  pub accepted : Program
  pub is_accepted : IsAccepted program accepted
  pub world : World
  pub grid : Grid
  pub texts : Texts
  pub opens : Opens accepted asked.input input asked.settings.rows world grid texts
  pub holds : is (answers_of world asked.settings.caps grid texts)

-- the words ask for one run, or for nothing that is known
abbrev pub IsNoSession : Words → Type 0
IsNoSession None = Unit {0}
IsNoSession (Some a) = a.mode ≡ Once
