-- What a bench promises.
use Rattle.std.specs.Prelude.{◌≡◌, ◌⊎◌, ℕ, List, Option, Some, None}
use Rattle.psac_base.specs.Outside.{Appended, AppendedPart, IsFile}
use Rattle.psac_ops.specs.declared.plain.TextId.{TextId}
use Rattle.psac_syntax.specs.declared.program.Program.{Program}
use Rattle.psac_inputs.specs.Grid.{Grid, room_for, widened}
use Rattle.psac_inputs.specs.Texts.{Texts}
use Rattle.psac_model.specs.Fresh.{World, world_of}
use Rattle.psac_report.specs.Refused.{usage_line}
use Rattle.psac_report.specs.Report.{bench_grid, bench_report}
use Rattle.psac_command.specs.Bench.{BenchAsked}
use Rattle.psac_open.specs.Accept.{IsAccepted, Refuses}
use Rattle.psac_open.specs.Loaded.{Counts, Files, RoseFor}
use Rattle.psac_open.specs.Opens.{Enters}

-- what the words ask for, if it is a bench
abbrev pub Words : Type 0
Words = Option BenchAsked

-- the program with its texts, and so many cells that are made, with room for so many rows
pub record OpensMade (p : Program) (cells rows : ℕ) (w : World) (g : Grid) (texts : Texts) : Type 0 where
  pub ids : List TextId
  pub enters : Enters p ids texts
  pub world : world_of p ids ≡ Some w
  pub grid : g ≡ widened (room_for rows cells 1) (bench_grid cells)

-- the text is the report of a program
pub record IsReport (p : Program) (a : BenchAsked) (text : List ℕ) : Type 0 where
  pub world : World
  pub grid : Grid
  pub texts : Texts
  pub opens : OpensMade p a.counts.cells a.settings.rows world grid texts
  pub is_text : text ≡ bench_report world a.settings.caps grid texts a.counts.cells a.counts.batches

-- the status and the text for words, where these are the bytes of the program
pub data Answers (words : Words) (program : List ℕ) (status : ℕ) (text : List ℕ) : Type 0 where
  -- the words ask for no bench
  Usage : words ≡ None → status ≡ 2 → text ≡ usage_line → Answers words program status text
  -- the bytes of the program are none that is run
  Refused : (a : BenchAsked) → words ≡ Some a → Refuses program text → status ≡ 4 → Answers words program status text
  -- the program is run
  Reported : (a : BenchAsked) (p : Program) → words ≡ Some a → IsAccepted program p → IsReport p a text → status ≡ 0
      → Answers words program status text

-- where files are told, these are the bytes of the program
abbrev pub IsProgramFile : Files → Words → List ℕ → Type 0
IsProgramFile files None bytes = Unit {0}
IsProgramFile files (Some a) bytes = IsFile files a.program bytes

-- the status and the text are the answer for some bytes of the program, which are those that are told, where they are told
pub record IsAnswer (status : ℕ) (text : List ℕ) (files : Files) (words : Words) : Type 0 where
  pub program : List ℕ
  pub answer : Answers words program status text
  pub program_is : IsProgramFile files words program

-- the text of that status was written whole
pub record Wrote (status : ℕ) (files : Files) (words : Words) (before now : Option (List ℕ)) : Type 0 where
  pub text : List ℕ
  pub is_answer : IsAnswer status text files words
  pub written : Appended before now text

-- a first part of the text of some status was written
pub record WrotePart (files : Files) (words : Words) (before now : Option (List ℕ)) : Type 0 where
  pub status : ℕ
  pub text : List ℕ
  pub is_answer : IsAnswer status text files words
  pub written : AppendedPart before now text

-- the program's load failed
abbrev pub LoadFailed : Files → Words → Counts → Counts → Counts → Counts → Type 0
LoadFailed files None faults faults_now overs overs_now = ⊥
LoadFailed files (Some a) faults faults_now overs overs_now = RoseFor a.program faults faults_now overs overs_now

-- the statuses that go with a whole text
abbrev pub HasText : ℕ → Type 0
HasText code = (code ≡ 0) ⊎ (code ≡ 2) ⊎ (code ≡ 4)

-- the statuses
abbrev pub IsStatus : ℕ → Type 0
IsStatus code = HasText code ⊎ (code ≡ 3) ⊎ (code ≡ 7) ⊎ (code ≡ 9)

-- the words ask for a bench, and the program is accepted, whatever the shelf may give for its name
pub record IsAcceptedBench (files : Files) (words : Words) : Type 0 where
  pub asked : BenchAsked
  pub words_are : words ≡ Some asked
  pub program : (bytes : List ℕ) → IsFile files asked.program bytes → (p : Program) × IsAccepted bytes p
