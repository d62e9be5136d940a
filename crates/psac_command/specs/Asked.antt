-- What the words of a command line ask for.
use Rattle.std.specs.Prelude.{◌≤◌, ℕ, ◌&&◌, nat_le, if◌then◌else◌, List, Option, Some, None, option_and_then, codes}
use Rattle.std.specs.Str.{bytes_eq}
use Rattle.psac_model.specs.declared.ends.Caps.{Caps}
use Rattle.psac_report.specs.Script.{number}
use Rattle.psac_command.specs.declared.request.Mode.{Mode}
use Rattle.psac_command.specs.declared.request.Mode.TheVariants.{Once, Session}
use Rattle.psac_command.specs.declared.request.Settings.{Settings}
use Rattle.psac_command.specs.Words.{is_taken, given}

-- what is to be done, with the names of the program and of the input
pub record Asked : Type 0 where
  pub mode : Mode
  pub program : List ℕ
  pub input : List ℕ
  pub settings : Settings

abbrev pub mode_of : List ℕ → Option Mode
mode_of word = if bytes_eq word (codes "once") then Some Once else (if bytes_eq word (codes "session") then Some Session else None)

-- where a setting begins and ends, and what it is where the words don't give it
pub record Range : Type 0 where
  pub least : ℕ
  pub most : ℕ
  pub default : ℕ

abbrev pub workers : Range
workers = record { least = 1; most = 64; default = 4 }

abbrev pub nodes : Range
nodes = record { least = 1; most = 1048576; default = 262144 }

abbrev pub mods : Range
mods = record { least = 1; most = 1048576; default = 131072 }

abbrev pub links : Range
links = record { least = 1; most = 1048576; default = 262144 }

abbrev pub rows : Range
rows = record { least = 0; most = 65536; default = 0 }

-- every setting is in its range
abbrev pub IsIn : Range → ℕ → Type 0
IsIn range n = (range.least ≤ n) × (n ≤ range.most)

abbrev pub within : Range → ℕ → Option ℕ
within range n = if nat_le range.least n && nat_le n range.most then Some n else None

-- one to nine decimal digits of a number in its range
abbrev pub number_within : Range → List ℕ → Option ℕ
number_within range word = option_and_then (within range) (number word)

abbrev pub setting : Range → Option (List ℕ) → Option ℕ
setting range None = Some range.default
setting range (Some word) = number_within range word

infixl 10 ◌>>=◌
abbrev pub ◌>>=◌ : {A B : Type 0} → Option A → (A → Option B) → Option B
found >>= more = option_and_then more found

-- the texts that the words give, by name
pub record Given : Type 0 where
  pub mode : Option (List ℕ)
  pub program : Option (List ℕ)
  pub input : Option (List ℕ)
  pub workers : Option (List ℕ)
  pub nodes : Option (List ℕ)
  pub mods : Option (List ℕ)
  pub links : Option (List ℕ)
  pub rows : Option (List ℕ)

abbrev pub given_by : List (List ℕ) → Given
given_by words = record {
  mode = given (codes "mode") words;
  program = given (codes "program") words;
  input = given (codes "input") words;
  workers = given (codes "workers") words;
  nodes = given (codes "nodes") words;
  mods = given (codes "mods") words;
  links = given (codes "links") words;
  rows = given (codes "rows") words;
}

abbrev pub caps_of : Given → Option Caps
caps_of texts = do
  nodes ← setting nodes texts.nodes
  mods ← setting mods texts.mods
  links ← setting links texts.links
  Some (record { nodes = nodes; mods = mods; links = links })

abbrev pub AreCaps : Caps → Type 0
AreCaps caps = IsIn nodes caps.nodes × IsIn mods caps.mods × IsIn links caps.links

abbrev pub settings_of : Given → Option Settings
settings_of texts = do
  workers ← setting workers texts.workers
  caps ← caps_of texts
  rows ← setting rows texts.rows
  Some (record { workers = workers; caps = caps; rows = rows })

-- what the texts ask for, where they name a mode
abbrev pub asked_in : Option Mode → Given → Option Asked
asked_in found texts = do
  mode ← found
  program ← texts.program
  input ← texts.input
  settings ← settings_of texts
  Some (record { mode = mode; program = program; input = input; settings = settings })

abbrev pub asked_by : Given → Option Asked
asked_by texts = asked_in (option_and_then mode_of texts.mode) texts

-- what words of the command's form ask for; others ask for nothing
abbrev pub in_form : {A : Type 0} → (Given → Option A) → List (List ℕ) → Option A
in_form by words = if is_taken words then by (given_by words) else None

-- what the words ask for, where they are of the command's form and every text and number is one
unfoldable pub asked : List (List ℕ) → Option Asked
asked words = in_form asked_by words

-- the session that is watched has a word of its own
abbrev pub watch_mode_of : List ℕ → Option Mode
watch_mode_of word = if bytes_eq word (codes "watch") then Some Session else None

abbrev pub watched_by : Given → Option Asked
watched_by texts = asked_in (option_and_then watch_mode_of texts.mode) texts

-- the session that the words ask to be watched
unfoldable pub watch_asked : List (List ℕ) → Option Asked
watch_asked words = in_form watched_by words

-- one run may have a mode of its own, by this name
abbrev pub single_mode_of : List ℕ → List ℕ → Option Mode
single_mode_of name word = if bytes_eq word name then Some Once else None

abbrev pub single_by : List ℕ → Given → Option Asked
single_by name texts = asked_in (option_and_then (single_mode_of name) texts.mode) texts

-- the run that the words ask for by that mode
unfoldable pub single_asked : List ℕ → List (List ℕ) → Option Asked
single_asked name words = in_form (single_by name) words
