-- Commands, as the definition of a session has them.
use Rattle.std.specs.Prelude.{ℕ, List, Option, Some, None, Result, Ok, Err, if◌then◌else◌}
use Rattle.psac_report.specs.Script.{Command, SetRows, ShowTree, ShowHeld, is_named}
use Rattle.psac_report.specs.Script as script
use Rattle.psac_script.specs.declared.command.Command.{Command as Read}
use Rattle.psac_script.specs.declared.command.Command.TheVariants as read
use Rattle.psac_script.specs.declared.command.FormRefused.{FormRefused}

abbrev pub command_view : Read → Command
command_view read.Skip = script.Skip
command_view (read.Set r c f) = script.Set r c f.now
command_view (read.Rows n) = SetRows n
command_view read.Commit = script.Commit
command_view read.Show = script.Show
command_view read.Tree = ShowTree
command_view (read.HoldOut h i) = script.HoldOut h i
command_view (read.HoldRef h g) = script.HoldRef h g
command_view (read.HoldFst h g) = script.HoldFst h g
command_view (read.HoldSnd h g) = script.HoldSnd h g
command_view (read.Held h) = ShowHeld h
command_view read.Quit = script.Quit

-- the command that was read, if one was
abbrev pub command_read : Result Read FormRefused → Option Command
command_read (Ok command) = Some (command_view command)
command_read (Err refused) = None

-- the command by which a place holds a modifiable
abbrev pub holding : List ℕ → ℕ → ℕ → Option Command
holding kind place index =
    if is_named kind "out" then Some (script.HoldOut place index) else
    if is_named kind "ref" then Some (script.HoldRef place index) else
    if is_named kind "fst" then Some (script.HoldFst place index) else
    if is_named kind "snd" then Some (script.HoldSnd place index) else None
