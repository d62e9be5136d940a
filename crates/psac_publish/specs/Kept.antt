-- The rule of a history's word, and what its steps tell.
use Rattle.std.specs.Prelude.{◌≡◌, ℕ, ◌==◌, true, List, [], ◌∷◌, ◌++◌, MatchBool}
use Rattle.logbook.specs.Pages.{Cell, Step, View, Book, Named}
use Rattle.psac_publish.specs.declared.seen.Seen.{Seen}
use Rattle.psac_publish.specs.History.{IsHistory, last_commit}

-- the first word is the number of commits of the last value; the second word is unused
pub record IsKept (cells : List Cell) (log : List Seen) : Type 0 where
  pub words : cells ≡ (last_commit log, true) ∷ (0, true) ∷ []
  pub history : IsHistory log

abbrev pub word_of : Book → Named
word_of b = record { tracked = true; key = 0; book = b }

-- the value was added to all that had been seen, or the history had gone on
abbrev pub Added : Step Seen → View Seen ℕ → ℕ → View Seen ℕ → Type 0
Added s v found w = MatchBool (found == s.old) (w.0 ≡ v.0 ++ s.ask ∷ []) (Unit {0})

-- all of the history was seen, and what was found is the number of commits of its last value
abbrev pub WasRead : Step Seen → View Seen ℕ → ℕ → View Seen ℕ → Type 0
WasRead s v found w = (found ≡ last_commit w.0) × IsHistory w.0
