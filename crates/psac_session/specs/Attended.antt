-- What a session with a listener writes, and what is heard of it.
use Rattle.std.specs.Prelude.{◌≡◌, ℕ, ◌≤◌, List, ◌++◌, length, take, Option, Some}
use Rattle.psac_base.specs.Feeds.{lines_of}
use Rattle.psac_base.specs.Outside.{AppendedPart}
use Rattle.psac_inputs.specs.Texts.{Texts}
use Rattle.psac_report.specs.Session.{step_of}
use Rattle.psac_engine.specs.declared.engine.Engine.{Engine}
use Rattle.psac_engine.specs.Engine.{caps_in, world_in}
use Rattle.psac_session.specs.Answered.{Answer, IsScript}
use Rattle.psac_session.specs.Heard.{Adds, Heard, Outward, Shows, shows_after}
use Rattle.psac_session.specs.State.{opening}

-- what is heard of lines
abbrev pub Hearing : Type 0
Hearing = List (List ℕ) → Shows

-- what is heard of a session over an engine and a list of texts
abbrev pub hearing_of : Engine → Texts → Hearing
hearing_of e texts lines = shows_after (world_in e) (step_of (world_in e) (caps_in e)) lines (opening e texts)

-- the whole report was written, and all commits of that script were heard, in order
pub record Attended (answer : Answer) (hearing : Hearing) (left : Option (List ℕ)) (before now : Outward) : Type 0 where
  pub script : List ℕ
  pub is_script : IsScript left script
  pub adds : Adds before now (answer (lines_of script)) (hearing (lines_of script))

-- a first part of the report was written, and the first commits of that script were heard, in order
pub record AttendedPart (answer : Answer) (hearing : Hearing) (left : Option (List ℕ)) (before now : Outward) : Type 0 where
  pub script : List ℕ
  pub is_script : IsScript left script
  pub written : AppendedPart before.0 now.0 (answer (lines_of script))
  pub count : ℕ
  pub within : count ≤ length (hearing (lines_of script))
  pub heard : Heard before.1 now.1 (take count (hearing (lines_of script)))

-- what is to be heard is what was heard, and then what is heard of the script, which is told
pub record Foretold (hearing : Hearing) (left : Option (List ℕ)) (heard : Option Shows) (told : Shows) : Type 0 where
  pub script : List ℕ
  pub is_script : left ≡ Some script
  pub before : Shows
  pub is_before : heard ≡ Some before
  pub is_told : told ≡ before ++ hearing (lines_of script)
