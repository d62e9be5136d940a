-- What a call answers that runs a program over an input, maybe beside the text of a script.
use Rattle.std.specs.Prelude.{◌≡◌, ◌⊎◌, ℕ, List, [], Option, Some, None}
use Rattle.psac_base.specs.Outside.{Appended, AppendedPart, IsFile}
use Rattle.psac_syntax.specs.declared.program.Program.{Program}
use Rattle.psac_inputs.specs.Grid.{Grid}
use Rattle.psac_inputs.specs.Texts.{Texts}
use Rattle.psac_model.specs.declared.ends.Caps.{Caps}
use Rattle.psac_model.specs.Fresh.{World}
use Rattle.psac_report.specs.Refused.{usage_line}
use Rattle.psac_command.specs.Asked.{Asked}
use Rattle.psac_session.specs.Answered.{IsScript}
use Rattle.psac_open.specs.Accept.{IsAccepted, Refuses}
use Rattle.psac_open.specs.Loaded.{Files, Words}
use Rattle.psac_open.specs.Opens.{Opens, RefusesBeside}

-- which text may be written of a program over a grid, within caps, and of a script
abbrev pub Report : Type 1
Report = World → Caps → Grid → Texts → List ℕ → List ℕ → Type 0

-- the status and the text for words, where these are the bytes of the program, of the input and of the script
pub data Answers (report : Report) (words : Words) (program input script : List ℕ) (status : ℕ) (text : List ℕ) : Type 0
  where
    -- the words ask for nothing that is known
    Usage : words ≡ None → status ≡ 2 → text ≡ usage_line → Answers report words program input script status text
    -- the bytes of the program are none that is run
    ProgramRefused : (a : Asked) → words ≡ Some a → Refuses program text → status ≡ 4
        → Answers report words program input script status text
    -- the program is run, and the input isn't taken
    InputRefused : (a : Asked) (p : Program) → words ≡ Some a → IsAccepted program p → RefusesBeside p a.input input text
        → status ≡ 5
        → Answers report words program input script status text
    -- both are accepted
    Reported : (a : Asked) (p : Program) (w : World) (g : Grid) (texts : Texts) → words ≡ Some a → IsAccepted program p
        → Opens p a.input input a.settings.rows w g texts → status ≡ 0 → report w a.settings.caps g texts script text
        → Answers report words program input script status text

-- where files are told, these are the bytes of the program
abbrev pub IsProgramFile : Files → Words → List ℕ → Type 0
IsProgramFile files None bytes = Unit {0}
IsProgramFile files (Some a) bytes = IsFile files a.program bytes

-- and of the input
abbrev pub IsInputFile : Files → Words → List ℕ → Type 0
IsInputFile files None bytes = Unit {0}
IsInputFile files (Some a) bytes = IsFile files a.input bytes

-- the status and the text are the answer for some bytes of the program, of the input and of the script, which are those
-- that are told, where they are told
pub record IsAnswer (report : Report) (status : ℕ) (text : List ℕ) (files : Files) (words : Words)
    (told : Option (List ℕ)) : Type 0 where
  pub program : List ℕ
  pub input : List ℕ
  pub script : List ℕ
  pub answer : Answers report words program input script status text
  pub program_is : IsProgramFile files words program
  pub input_is : (status ≡ 4) ⊎ IsInputFile files words input
  pub script_is : IsScript told script

-- the text of that status was written whole
pub record Wrote (report : Report) (status : ℕ) (files : Files) (words : Words)
    (told before now : Option (List ℕ)) : Type 0 where
  pub text : List ℕ
  pub is_answer : IsAnswer report status text files words told
  pub written : Appended before now text

-- a first part of the text of some status was written
pub record WrotePart (report : Report) (files : Files) (words : Words) (told before now : Option (List ℕ)) : Type 0
  where
    pub status : ℕ
    pub text : List ℕ
    pub is_answer : IsAnswer report status text files words told
    pub written : AppendedPart before now text

-- nothing was written, or a first part of a text
abbrev pub WroteSome : Report → Files → Words → Option (List ℕ) → Option (List ℕ) → Option (List ℕ) → Type 0
WroteSome report files words told before now = Appended before now [] ⊎ WrotePart report files words told before now

-- the statuses that go with a whole text
abbrev pub HasText : ℕ → Type 0
HasText code = (code ≡ 0) ⊎ (code ≡ 2) ⊎ (code ≡ 4) ⊎ (code ≡ 5)

-- the statuses behind a first part of a text
abbrev pub HasPart : ℕ → Type 0
HasPart code = (code ≡ 6) ⊎ (code ≡ 7) ⊎ (code ≡ 8)

-- the statuses
abbrev pub IsStatus : ℕ → Type 0
IsStatus code = HasText code ⊎ HasPart code ⊎ (code ≡ 3) ⊎ (code ≡ 9)

-- the statuses where the program or the input isn't taken
abbrev pub IsUntaken : ℕ → Type 0
IsUntaken code = (code ≡ 3) ⊎ (code ≡ 4) ⊎ (code ≡ 5)

-- the words ask for something that is known, and the program and the input are accepted, whatever the shelf may give for them
pub record AreAccepted (files : Files) (words : Words) : Type 0 where
  pub asked : Asked
  pub words_are : words ≡ Some asked
  pub program : (bytes : List ℕ) → IsFile files asked.program bytes → (p : Program) × IsAccepted bytes p
  pub input : (bytes text : List ℕ) (p : Program) → IsFile files asked.input bytes → RefusesBeside p asked.input bytes text → ⊥
