-- The paths of the blocks that were run again, told from the old record and the new one.
use Rattle.std.specs.Prelude.{◌≡◌, ℕ, Bool, if◌then◌else◌, List, [], ◌∷◌, ◌++◌, map}
use Rattle.psac_model.specs.Names.{Path, Name}
use Rattle.psac_model.specs.Redo.{reads_differ}
use Rattle.psac_traced.specs.Rec.{Rec, A, W, S, P, R}
use Rattle.psac_traced.specs.Renamed.{reads_named}
use Rattle.psac_traced.specs.Mending.{unlike}
use Rattle.psac_traced.specs.Repaired.{WhereLike}

-- the paths below a turn, and those from a path on
abbrev pub under : ℕ → List Path → List Path
under x = map (λ z. x ∷ z)

abbrev pub from : Path → List Path → List Path
from p = map (λ z. p ++ z)

module _ {N : Type 0} (same : N → N → Bool) where
  abbrev pub redone : Rec N → Rec N → List Path
  redone (A m old) (A n new) = under 3 (redone old new)
  redone (W m v old) (W n u new) = under 3 (redone old new)
  redone (S t old) (S u new) = under 0 (redone t u) ++ under 1 (redone old new)
  redone (P t old) (P u new) = under 0 (redone t u) ++ under 1 (redone old new)
  redone (R room b e reads t) (R level c f again u) = if unlike same reads again then [] ∷ [] else under 2 (redone t u)
  redone _ _ = []

-- the old record's names and the new one's tell of each read what the test tells of the modifiables
module _ {M : Type 0} (same : M → M → Bool) (f g : M → Name) where
  abbrev pub Tells : Path → List Path → Rec M → Rec M → Type 0
  Tells p zs (A m old) (A n new) = Tells (p ++ 3 ∷ []) zs old new
  Tells p zs (W m v old) (W n u new) = Tells (p ++ 3 ∷ []) zs old new
  Tells p zs (S t old) (S u new) = Tells (p ++ 0 ∷ []) zs t u × Tells (p ++ 1 ∷ []) (zs ++ from (p ++ 0 ∷ []) (redone same t u)) old new
  Tells p zs (P t old) (P u new) = Tells (p ++ 0 ∷ []) zs t u × Tells (p ++ 1 ∷ []) (zs ++ from (p ++ 0 ∷ []) (redone same t u)) old new
  Tells p zs (R room b e reads t) (R level c h again u) =
      (unlike same reads again ≡ reads_differ zs (reads_named f reads) (reads_named g again)) × WhereLike (unlike same reads again) (Tells (p ++ 2 ∷ []) zs t u)
  Tells p zs _ _ = Unit {0}
