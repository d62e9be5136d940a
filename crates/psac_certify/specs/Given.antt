-- What is read and written beside an engine in which nothing has run.
use Rattle.std.specs.Prelude.{◌≡◌, ◌+◌, ◌<◌, ℕ, List, length, Option}
use Rattle.std.specs.Io.KnownBytes.{Consumes, IsAtEnd}
use Rattle.psac_base.specs.Outside.{Appended, AppendedPart}
use Rattle.psac_engine.specs.Engine.{caps_in, grid_in, world_in}
use Rattle.psac_session.specs.Answered.{IsScript}
use Rattle.psac_open.specs.declared.opening.Opened.{Opened}
use Rattle.psac_run.specs.Reported.{Report}

-- the bytes are all that a source had, fewer than 16,777,217
pub record IsAllOf (bytes : List ℕ) (left left_now : Option (List ℕ)) (taken taken_now : ℕ) : Type 0 where
  pub took : Consumes left left_now bytes
  pub at_end : IsAtEnd left_now
  pub count : taken_now ≡ taken + length bytes
  pub few : length bytes < 16777217

-- a source was read to its end
pub record IsReadOut (left left_now : Option (List ℕ)) (taken taken_now : ℕ) : Type 0 where
  pub bytes : List ℕ
  pub all : IsAllOf bytes left left_now taken taken_now

-- the text is one of the report on what is opened and the script
abbrev pub IsOn : Report → Opened → List ℕ → List ℕ → Type 0
IsOn report o script text = report (world_in o.engine) (caps_in o.engine) (grid_in o.engine) o.texts script text

-- a text of the report was written
pub record Gave (report : Report) (o : Opened) (told before now : Option (List ℕ)) : Type 0 where
  pub script : List ℕ
  pub is_script : IsScript told script
  pub text : List ℕ
  pub is_text : IsOn report o script text
  pub written : Appended before now text

-- a first part of one was written
pub record GavePart (report : Report) (o : Opened) (told before now : Option (List ℕ)) : Type 0 where
  pub script : List ℕ
  pub is_script : IsScript told script
  pub text : List ℕ
  pub is_text : IsOn report o script text
  pub written : AppendedPart before now text
