-- What was loaded of a shelf, and what a failed load shows.
use Rattle.std.specs.Prelude.{◌⊎◌, ℕ, List, Option, None, Some}
use Rattle.psac_base.specs.Causes.{Rose}
use Rattle.psac_base.specs.Outside.{IsFile}
use Rattle.psac_syntax.specs.declared.program.Program.{Program}
use Rattle.psac_command.specs.Asked.{Asked}
use Rattle.psac_open.specs.Accept.{IsAccepted}
use Rattle.psac_open.specs.declared.load.TheConstants.{MOST}

-- the files of a shelf, by name and bytes, where it tells them
abbrev pub Files : Type 0
Files = Option (List (List ℕ × List ℕ))

-- counts for each pair of a name and a limit
abbrev pub Counts : Type 0
Counts = List ℕ → ℕ → ℕ

-- loads of that name failed, or met too large a file
abbrev pub RoseFor : List ℕ → Counts → Counts → Counts → Counts → Type 0
RoseFor name faults faults_now overs overs_now = Rose (faults name MOST) (faults_now name MOST) ⊎ Rose (overs name MOST) (overs_now name MOST)

-- the bytes of a file are a program that is run
pub record AcceptedFile (files : Files) (name : List ℕ) : Type 0 where
  pub bytes : List ℕ
  pub program : Program
  pub is_file : IsFile files name bytes
  pub is_accepted : IsAccepted bytes program

-- a program that is run, of some bytes of the file of that name
abbrev pub HasProgram : Files → List ℕ → Program → Type 0
HasProgram files name p = (bytes : List ℕ) × IsFile files name bytes × IsAccepted bytes p

-- what the words ask for, if it is known
abbrev pub Words : Type 0
Words = Option Asked

-- the program's load failed; or the program is accepted, and the input's load failed
abbrev pub LoadFailed : Files → Words → Counts → Counts → Counts → Counts → Type 0
LoadFailed files None faults faults_now overs overs_now = ⊥
LoadFailed files (Some a) faults faults_now overs overs_now =
    RoseFor a.program faults faults_now overs overs_now
    ⊎ (AcceptedFile files a.program × RoseFor a.input faults faults_now overs overs_now)
