-- What an eye was shown.
use Rattle.std.specs.Prelude.{◌≡◌, ℕ, ◌<◌, List, [], ◌∷◌, ◌++◌, Option, Some, None, IfSome}
use Rattle.psac_publish.specs.declared.seen.Seen.{Seen}
use Rattle.psac_publish.specs.History.{Course, Fits}

-- what an eye was shown is told no more, or it is what it had been shown and then this value
abbrev pub Saw : Option (List Seen) → Option (List Seen) → Seen → Type 0
Saw before None s = Unit {0}
Saw None (Some now) s = ⊥
Saw (Some seen) (Some now) s = now ≡ seen ++ s ∷ []

-- the number of commits is above that of the last value, if there is one
abbrev pub IsAbove : Option ℕ → ℕ → Type 0
IsAbove last n = IfSome last (λ m. m < n)

-- this is the number of commits of the last value, if there is one
abbrev pub IsAt : Option ℕ → ℕ → Type 0
IsAt last n = IfSome last (λ m. m ≡ n)

-- values with rising numbers of commits, each of which is what is told for its number; the first number is above the one
-- before, and the last one is told
abbrev pub Follow : Course → Option ℕ → List Seen → Option ℕ → Type 0
Follow course before [] last = before ≡ last
Follow course before (s ∷ more) last = IsAbove before s.commit × Fits course s × Follow course (Some s.commit) more last

-- such values were shown
pub record ShowedMore (course : Course) (before last : Option ℕ) (seen now : List Seen) : Type 0 where
  pub values : List Seen
  pub grown : now ≡ seen ++ values
  pub follow : Follow course before values last

-- where the eye tells what it was shown
abbrev pub Showed : Course → Option ℕ → Option ℕ → Option (List Seen) → Option (List Seen) → Type 0
Showed course before last seen None = Unit {0}
Showed course before last None (Some now) = ⊥
Showed course before last (Some seen) (Some now) = ShowedMore course before last seen now
