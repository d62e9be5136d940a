-- What is written beside an engine that was opened for words is an answer to the words.
use Rattle.std.proofs.Common.{◌≡◌, ◌⊎◌, inl, inr, refl, ℕ, List, [], Option, None, Some, arith}
use Rattle.psac_base.specs.Outside.{Appended, AppendedPart}
use Rattle.psac_inputs.specs.Grid.{Grid}
use Rattle.psac_inputs.specs.Texts.{Texts}
use Rattle.psac_syntax.specs.declared.program.Program.{Program}
use Rattle.psac_model.specs.declared.ends.Caps.{Caps}
use Rattle.psac_model.specs.Fresh.{World}
use Rattle.psac_report.specs.Dump.{dump_report}
use Rattle.psac_command.specs.Asked.{Asked}
use Rattle.psac_engine.specs.Engine.{caps_in, grid_in, world_in}
use Rattle.psac_session.specs.Answered.{IsScript}
use Rattle.psac_open.specs.declared.opening.Opened.{Opened}
use Rattle.psac_open.specs.Loaded.{Files}
use Rattle.psac_open.specs.Views.{Holds}
use Rattle.psac_open.specs.Named.{Began}
use Rattle.psac_run.specs.Reported.{HasText, IsAnswer, Report, Wrote, WrotePart}
use Rattle.psac_run.proofs.Finished.{opened_answer, text_low}
use Rattle.psac_certify.specs.Answer.{IsDump}
use Rattle.psac_certify.specs.Given.{Gave, GavePart, IsOn}

moved : (report : Report) (w1 w : World) (c1 c : Caps) (g1 g : Grid) (texts : Texts) (script text : List ℕ) → w1 ≡ w
    → c1 ≡ c → g1 ≡ g
    → report w1 c1 g1 texts script text → report w c g texts script text
moved report w1 w c1 c g1 g texts script text of_world of_caps of_grid told = rw (← of_world, ← of_caps, ← of_grid) told

on_input : (report : Report) (p : Program) (name input : List ℕ) (rows : ℕ) (caps : Caps) (o : Opened)
    (h : Holds p name input rows caps o) (script text : List ℕ)
    → IsOn report o script text → report h.world caps h.grid o.texts script text
on_input report p name input rows caps o h script text told =
    moved report (world_in o.engine) h.world (caps_in o.engine) caps (grid_in o.engine) h.grid o.texts script text
    h.engine_world h.engine.caps h.engine.grid told

answer_on : (report : Report) (files : Files) (a : Asked) (o : Opened) (told : Option (List ℕ)) (script text : List ℕ)
    → Began files a o → IsScript told script
    → IsOn report o script text → IsAnswer report 0 text files (Some a) told
answer_on report files a o told script text b is_script is_text =
    opened_answer report files a o b told script text is_script
    (on_input report b.accepted a.input b.input a.settings.rows a.settings.caps o b.holds script text is_text)

pub wrote_given : (report : Report) (files : Files) (a : Asked) (o : Opened) (told before now : Option (List ℕ))
    → Began files a o → Gave report o told before now
    → Wrote report 0 files (Some a) told before now
wrote_given report files a o told before now b gave =
    record {
      text = gave.text;
      is_answer = answer_on report files a o told gave.script gave.text b gave.is_script
          gave.is_text;
      written = gave.written;
    }

pub wrote_some : (report : Report) (files : Files) (a : Asked) (o : Opened) (told before now : Option (List ℕ))
    → Began files a o → GavePart report o told before now
    → WrotePart report files (Some a) told before now
wrote_some report files a o told before now b gave =
    record {
      status = 0;
      text = gave.text;
      is_answer = answer_on report files a o told gave.script gave.text b
          gave.is_script gave.is_text;
      written = gave.written;
    }

-- the dump of what was opened, which no script has to do with
pub dump_given : (o : Opened) (before now : Option (List ℕ))
    → Appended before now (dump_report (world_in o.engine) (caps_in o.engine) (grid_in o.engine) o.texts)
    → Gave IsDump o None before now
dump_given o before now all = record { script = []; is_script = tt; text = _; is_text = refl; written = all }

pub dump_some : (o : Opened) (before now : Option (List ℕ))
    → AppendedPart before now (dump_report (world_in o.engine) (caps_in o.engine) (grid_in o.engine) o.texts)
    → GavePart IsDump o None before now
dump_some o before now some = record { script = []; is_script = tt; text = _; is_text = refl; written = some }

-- of the statuses of a run, the one with a text
pub zero_with_text : (code : ℕ) → (code ≡ 0) ⊎ (code ≡ 7) ⊎ (code ≡ 9) → HasText code → code ≡ 0
zero_with_text code (inl e) has = e
zero_with_text code (inr (inl e)) has = let low = text_low code has in absurd (omega (arith, e, low))
zero_with_text code (inr (inr e)) has = let low = text_low code has in absurd (omega (arith, e, low))
