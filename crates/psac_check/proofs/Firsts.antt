-- The first fault of several.
use Rattle.std.proofs.Common.{◌≡◌, ℕ, List, [], ◌∷◌, ◌++◌, Option, Some, None, Result, Ok, Err, refl}
use Rattle.psac_model.specs.Series.{Breach, Fault, first_wrong, so}

pub first_one : (a : Option Breach) → first_wrong (a ∷ []) ≡ a
first_one None = refl
first_one (Some b) = refl

pub first_here : (a : Option Breach) (b : Breach) (more : List (Option Breach)) → a ≡ Some b → first_wrong (a ∷ more) ≡ Some b
first_here None b more h = cc
first_here (Some c) b more h = h

pub first_later : (a : Option Breach) (more : List (Option Breach)) → a ≡ None → first_wrong (a ∷ more) ≡ first_wrong more
first_later None more h = refl
first_later (Some c) more h = cc
