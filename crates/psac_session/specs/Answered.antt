-- What a session writes and reads.
use Rattle.std.specs.Prelude.{◌≡◌, ◌⊎◌, ℕ, ◌+◌, ◌-◌, ◌≤◌, true, false, List, Option, Some, None, length, take, slice_index}
use Rattle.std.specs.List.{list_any}
use Rattle.std.specs.Io.KnownBytes.{Consumes, IsAtEnd}
use Rattle.psac_base.specs.Feeds.{NoFeed, lines_of}
use Rattle.psac_base.specs.Outside.{Appended, AppendedPart}
use Rattle.psac_inputs.specs.Texts.{Texts}
use Rattle.psac_report.specs.Steps.{is_quit, replies_by}
use Rattle.psac_report.specs.Session.{step_of}
use Rattle.psac_engine.specs.declared.engine.Engine.{Engine}
use Rattle.psac_engine.specs.Engine.{caps_in, world_in}
use Rattle.psac_session.specs.State.{opening}

-- an engine with fewer commits has enough left for every line of a script
abbrev pub most_opened : ℕ
most_opened = 500000000

-- what is answered to lines
abbrev pub Answer : Type 0
Answer = List (List ℕ) → List ℕ

-- what a session over an engine and a list of texts answers to the lines of a script
abbrev pub answer_of : Engine → Texts → Answer
answer_of e texts lines = replies_by (world_in e) (step_of (world_in e) (caps_in e)) lines (opening e texts)

-- where a script is told, these are its bytes
abbrev pub IsScript : Option (List ℕ) → List ℕ → Type 0
IsScript None bytes = Unit {0}
IsScript (Some all) bytes = all ≡ bytes

-- the whole report was written
pub record Answered (answer : Answer) (left before now : Option (List ℕ)) : Type 0 where
  pub script : List ℕ
  pub is_script : IsScript left script
  pub written : Appended before now (answer (lines_of script))

-- a first part of the report was written
pub record AnsweredPart (answer : Answer) (left before now : Option (List ℕ)) : Type 0 where
  pub script : List ℕ
  pub is_script : IsScript left script
  pub written : AppendedPart before now (answer (lines_of script))

-- the script was read to its end, or to a line `quit`
pub record ReadOut (left left_now : Option (List ℕ)) (taken taken_now : ℕ) : Type 0 where
  pub bytes : List ℕ
  pub took : Consumes left left_now bytes
  pub count : taken_now ≡ taken + length bytes
  pub stop : IsAtEnd left_now ⊎ (list_any is_quit (lines_of bytes) ≡ true)

-- at least the lines that end within the first `far` bytes were answered, and no line but whole ones; none is `quit`
pub record AnsweredTo (answer : Answer) (bytes : List ℕ) (far : ℕ) (before now : Option (List ℕ)) : Type 0 where
  -- where the last of those lines ends
  pub upto : ℕ
  pub within : upto ≤ length bytes
  pub behind : (upto ≡ 0) ⊎ (slice_index bytes (upto - 1) ≡ 10)
  pub none : NoFeed bytes upto far
  pub no_quit : list_any is_quit (lines_of (take upto bytes)) ≡ false
  pub written : Appended before now (answer (lines_of (take upto bytes)))

-- the whole lines of what was read were answered
pub record AnsweredWhole (answer : Answer) (left left_now before now : Option (List ℕ)) : Type 0 where
  pub bytes : List ℕ
  pub took : Consumes left left_now bytes
  pub answered : AnsweredTo answer bytes (length bytes) before now

-- 16,777,217 bytes were read, and at least the lines that end before the last 4,096 of them were answered
pub record AnsweredLong (answer : Answer) (left left_now before now : Option (List ℕ)) : Type 0 where
  pub bytes : List ℕ
  pub took : Consumes left left_now bytes
  pub count : length bytes ≡ 16777217
  pub answered : AnsweredTo answer bytes 16773121 before now
