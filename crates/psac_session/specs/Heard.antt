-- What is heard of the commits of a script.
use Rattle.std.specs.Prelude.{◌≡◌, ℕ, ◌<◌, Bool, true, false, List, [], ◌∷◌, ◌++◌, length, Option, Some, None, IfSome, slice_get, option_map}
use Rattle.psac_base.specs.Outside.{Appended}
use Rattle.psac_model.specs.declared.ends.Shown.{Shown}
use Rattle.psac_model.specs.Fresh.{World}
use Rattle.psac_model.specs.Outputs.{outputs_from}
use Rattle.psac_report.specs.Script.{Command, Commit, Quit, command_of}
use Rattle.psac_report.specs.Session.{State, shown_now}
use Rattle.psac_report.specs.Steps.{Step}
use Rattle.psac_engine.specs.declared.engine.Engine.{Engine}
use Rattle.psac_engine.specs.Engine.{kept_in, world_in}
use Rattle.psac_engine.specs.Commit.{most_commits}

-- what is shown of the outputs after each commit, in order; nothing where no run is kept then
abbrev pub Shows : Type 0
Shows = List (Option (List Shown))

-- what is shown of the outputs of the run that an engine keeps
abbrev pub shown_in : Engine → Option (List Shown)
shown_in e = option_map (λ r. outputs_from r.heap 0 (world_in e).main.dests) (kept_in e)

-- what a listener heard is told no more, or it is what it had heard and then this
abbrev pub Heard : Option Shows → Option Shows → Shows → Type 0
Heard before None shows = Unit {0}
Heard None (Some now) shows = ⊥
Heard (Some seen) (Some now) shows = now ≡ seen ++ shows

-- there is room for one commit more
abbrev pub HasRoom : Option Shows → Type 0
HasRoom heard = IfSome heard (λ seen. length seen < most_commits)

-- of what is to be heard this is next
abbrev pub IsNext : Shows → Option Shows → Option (List Shown) → Type 0
IsNext told heard shown = IfSome heard (λ seen. slice_get told (length seen) ≡ Some shown)

abbrev pub commits : Option Command → Bool
commits (Some Commit) = true
commits command = false

-- the line is a commit
abbrev pub is_commit : List ℕ → Bool
is_commit line = commits (command_of line)

-- what is heard where there is a commit
abbrev pub heard_where : Bool → Option (List Shown) → Shows
heard_where true shown = shown ∷ []
heard_where false shown = []

-- what is heard of a command that leads to this state
abbrev pub heard_by : World → Option Command → State → Shows
heard_by w command s = heard_where (commits command) (shown_now w s)

abbrev pub shows_by : World → Step → (State → Shows) → State → Option Command → Shows
shows_by w step more s (Some Quit) = []
shows_by w step more s command = heard_by w command (step s command).0 ++ more (step s command).0

-- what is shown after each commit of lines, up to `quit` or the end
abbrev pub shows_after : World → Step → List (List ℕ) → State → Shows
shows_after w step [] s = []
shows_after w step (line ∷ more) s = shows_by w step (shows_after w step more) s (command_of line)

-- what was written and what was heard so far, where they are told
abbrev pub Outward : Type 0
Outward = Option (List ℕ) × Option Shows

-- this was written, and that was heard
abbrev pub Adds : Outward → Outward → List ℕ → Shows → Type 0
Adds before now bytes shows = Appended before.0 now.0 bytes × Heard before.1 now.1 shows
