-- The replies to one more line.
use Rattle.std.proofs.Common.{◌≡◌, ℕ, true, false, List, [], ◌∷◌, ◌++◌, Option, Some, refl}
use Rattle.psac_model.specs.Fresh.{World}
use Rattle.psac_report.specs.Script.{Command, Quit, command_of}
use Rattle.psac_report.specs.Session.{State}
use Rattle.psac_report.specs.Steps.{Step, answered_by, is_quit, quits, replies_by}
use Rattle.psac_session.specs.Heard.{Shows, heard_by, shows_after, shows_by}
use Rattle.psac_session.specs.Turned.{text_of}

quitting : (w : World) (step : Step) (more : State → List ℕ) (s : State) (command : Option Command) → quits command ≡ true → answered_by w step more s command ≡ []
quitting w step more s (Some Quit) quit = refl
quitting w step more s _ quit = absurd (cc)

going : (w : World) (step : Step) (more : State → List ℕ) (s : State) (command : Option Command) → quits command ≡ false
    → answered_by w step more s command ≡ text_of w (step s command) ++ more (step s command).0
going w step more s (Some Quit) other = absurd (cc)
going w step more s _ other = refl

-- nothing is answered from `quit` on
pub replies_quit : (w : World) (step : Step) (line : List ℕ) (more : List (List ℕ)) (s : State) → is_quit line ≡ true → replies_by w step (line ∷ more) s ≡ []
replies_quit w step line more s quit = quitting w step (replies_by w step more) s (command_of line) quit

-- the reply to a line, and then the replies to the others
pub replies_next : (w : World) (step : Step) (line : List ℕ) (more : List (List ℕ)) (s : State) → is_quit line ≡ false
    → replies_by w step (line ∷ more) s ≡ text_of w (step s (command_of line)) ++ replies_by w step more (step s (command_of line)).0
replies_next w step line more s other = going w step (replies_by w step more) s (command_of line) other

hears_none : (w : World) (step : Step) (more : State → Shows) (s : State) (command : Option Command) → quits command ≡ true → shows_by w step more s command ≡ []
hears_none w step more s (Some Quit) quit = refl
hears_none w step more s _ quit = absurd (cc)

hears_on : (w : World) (step : Step) (more : State → Shows) (s : State) (command : Option Command) → quits command ≡ false
    → shows_by w step more s command ≡ heard_by w command (step s command).0 ++ more (step s command).0
hears_on w step more s (Some Quit) other = absurd (cc)
hears_on w step more s _ other = refl

-- nothing is heard from `quit` on
pub shows_quit : (w : World) (step : Step) (line : List ℕ) (more : List (List ℕ)) (s : State) → is_quit line ≡ true → shows_after w step (line ∷ more) s ≡ []
shows_quit w step line more s quit = hears_none w step (shows_after w step more) s (command_of line) quit

-- what is heard of a line, and then of the others
pub shows_next : (w : World) (step : Step) (line : List ℕ) (more : List (List ℕ)) (s : State) → is_quit line ≡ false
    → shows_after w step (line ∷ more) s ≡ heard_by w (command_of line) (step s (command_of line)).0 ++ shows_after w step more (step s (command_of line)).0
shows_next w step line more s other = hears_on w step (shows_after w step more) s (command_of line) other
