-- The replies of a session are those by its step.
use Rattle.std.proofs.Common.{◌≡◌, ◌∙◌, refl, ap, ℕ, List, [], ◌∷◌, ◌++◌, Option, Some, None}
use Rattle.psac_model.specs.declared.ends.Caps.{Caps}
use Rattle.psac_model.specs.Fresh.{World}
use Rattle.psac_report.specs.Script.{Command, Skip, Set, SetRows, Commit, Show, ShowTree, HoldOut, HoldRef, HoldFst, HoldSnd, ShowHeld, Quit, command_of}
use Rattle.psac_report.specs.Session.{State, Reply, reply_text, step_of}
use Rattle.psac_report.specs.Report.{answered, replies, written_then}
use Rattle.psac_report.specs.Steps.{answered_by, replies_by}

then_same : (w : World) (f g : State → List ℕ) → ((s : State) → f s ≡ g s) → (after : State × Reply) → written_then w f after ≡ written_then w g after
then_same w f g same (s, reply) = ap (λ xs. reply_text w s.texts reply ++ xs) (same s)

answered_same : (w : World) (caps : Caps) (f g : State → List ℕ) → ((s : State) → f s ≡ g s) → (s : State) (command : Option Command)
    → answered w caps f s command ≡ answered_by w (step_of w caps) g s command
answered_same w caps f g same s None = then_same w f g same (step_of w caps s None)
answered_same w caps f g same s (Some Skip) = then_same w f g same (step_of w caps s (Some Skip))
answered_same w caps f g same s (Some (Set r c bytes)) = then_same w f g same (step_of w caps s (Some (Set r c bytes)))
answered_same w caps f g same s (Some (SetRows n)) = then_same w f g same (step_of w caps s (Some (SetRows n)))
answered_same w caps f g same s (Some Commit) = then_same w f g same (step_of w caps s (Some Commit))
answered_same w caps f g same s (Some Show) = then_same w f g same (step_of w caps s (Some Show))
answered_same w caps f g same s (Some ShowTree) = then_same w f g same (step_of w caps s (Some ShowTree))
answered_same w caps f g same s (Some (HoldOut h i)) = then_same w f g same (step_of w caps s (Some (HoldOut h i)))
answered_same w caps f g same s (Some (HoldRef h i)) = then_same w f g same (step_of w caps s (Some (HoldRef h i)))
answered_same w caps f g same s (Some (HoldFst h i)) = then_same w f g same (step_of w caps s (Some (HoldFst h i)))
answered_same w caps f g same s (Some (HoldSnd h i)) = then_same w f g same (step_of w caps s (Some (HoldSnd h i)))
answered_same w caps f g same s (Some (ShowHeld h)) = then_same w f g same (step_of w caps s (Some (ShowHeld h)))
answered_same w caps f g same s (Some Quit) = refl

pub replies_same : (w : World) (caps : Caps) (lines : List (List ℕ)) (s : State) → replies w caps lines s ≡ replies_by w (step_of w caps) lines s
replies_same w caps [] s = refl
replies_same w caps (line ∷ more) s =
    answered_same w caps (replies w caps more) (replies_by w (step_of w caps) more) (replies_same w caps more) s (command_of line)
