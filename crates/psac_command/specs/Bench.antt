-- What the words of a bench ask for.
use Rattle.std.specs.Prelude.{◌≤◌, ℕ, ◌+◌, ◌==◌, Bool, false, if◌then◌else◌, List, Option, Some, None, option_map, codes, take, drop, position}
use Rattle.std.specs.Str.{bytes_eq}
use Rattle.psac_command.specs.declared.bench.Counts.{Counts}
use Rattle.psac_command.specs.declared.request.Settings.{Settings}
use Rattle.psac_command.specs.Asked.{Given, IsIn, Range, in_form, number_within, settings_of, ◌>>=◌}

-- the words always give both
abbrev pub cells : Range
cells = record { least = 1; most = 65536; default = 1 }

abbrev pub batches : Range
batches = record { least = 0; most = 1000; default = 0 }

abbrev pub AreCounts : Counts → Type 0
AreCounts counts = IsIn cells counts.cells × IsIn batches counts.batches

abbrev pub is_x : ℕ → Bool
is_x c = c == 120

-- what stands before the first `x`, and what behind it
abbrev pub around_x : List ℕ → Option (List ℕ × List ℕ)
around_x word = option_map (λ at. (take at word, drop (at + 1) word)) (position is_x word)

abbrev pub counts_in : List ℕ × List ℕ → Option Counts
counts_in parts = do
  cells ← number_within cells parts.0
  batches ← number_within batches parts.1
  Some (record { cells = cells; batches = batches })

-- the two numbers of a word such as `64x5`
abbrev pub counts_of : List ℕ → Option Counts
counts_of word = around_x word >>= counts_in

-- a program, and how many cells and batches of edits are made for it
pub record BenchAsked : Type 0 where
  pub program : List ℕ
  pub counts : Counts
  pub settings : Settings

abbrev pub names_bench : Option (List ℕ) → Bool
names_bench None = false
names_bench (Some word) = bytes_eq word (codes "bench")

abbrev pub bench_in : Given → Option BenchAsked
bench_in texts = do
  program ← texts.program
  counts ← texts.input >>= counts_of
  settings ← settings_of texts
  Some (record { program = program; counts = counts; settings = settings })

abbrev pub bench_by : Given → Option BenchAsked
bench_by texts = if names_bench texts.mode then bench_in texts else None

-- the bench that the words ask for
unfoldable pub bench_asked : List (List ℕ) → Option BenchAsked
bench_asked words = in_form bench_by words
