-- The history of what was published, and what is seen of it.
use Rattle.std.specs.Prelude.{◌≡◌, ℕ, ◌<◌, ◌-◌, List, length, Option, None, Some, IfSome, slice_get, option_map, unwrap_or}
use Rattle.logbook.specs.Pages.{Book}
use Rattle.psac_model.specs.declared.ends.Shown.{Shown}
use Rattle.psac_publish.specs.declared.seen.Seen.{Seen}

-- commit 0, of which no record is kept
abbrev pub nothing : Seen
nothing = record { commit = 0; outputs = None }

-- it begins with commit 0, and each value has more commits than those before it
pub record IsHistory (log : List Seen) : Type 0 where
  pub begins : slice_get log 0 ≡ Some nothing
  pub rises : (i j : ℕ) (s t : Seen) → i < j → slice_get log i ≡ Some s → slice_get log j ≡ Some t → s.commit < t.commit

abbrev pub last_of : List Seen → Option Seen
last_of log = slice_get log (length log - 1)

-- the value is the last one
abbrev pub IsLast : Seen → List Seen → Type 0
IsLast s log = last_of log ≡ Some s

-- how many commits the last value has
abbrev pub last_commit : List Seen → ℕ
last_commit log = unwrap_or (option_map (λ s. s.commit) (last_of log)) 0

-- for each number of commits what is shown after them, where that is told
abbrev pub Course : Type 0
Course = Option (List (Option (List Shown)))

-- the value is what is told for its number of commits
abbrev pub Fits : Course → Seen → Type 0
Fits course s = IfSome course (λ told. slice_get told s.commit ≡ Some s.outputs)

-- the values of a beginning of the history that this book keeps
pub record Reached : Type 0 where
  pub book : Book
  pub log : List Seen

abbrev pub reached : Book → List Seen → Reached
reached book log = record { book = book; log = log }

-- it begins the history with this name, and its values are what is told
pub record IsOf (name : Book) (course : Course) (r : Reached) : Type 0 where
  pub named : r.book ≡ name
  pub fits : (k : ℕ) (s : Seen) → slice_get r.log k ≡ Some s → Fits course s
