-- What a session over an engine came to, as an answer to the words that opened the engine.
use Rattle.std.proofs.Common.{◌≡◌, refl, ℕ, List, Option, Some, None}
use Rattle.std.specs.Prelude.{option_map}
use Rattle.psac_base.specs.Feeds.{lines_of}
use Rattle.psac_base.specs.Outside.{Appended}
use Rattle.psac_inputs.specs.Batch.{empty_batch, put_all}
use Rattle.psac_inputs.specs.Grid.{Grid}
use Rattle.psac_inputs.specs.Texts.{Texts}
use Rattle.psac_model.specs.declared.ends.Caps.{Caps}
use Rattle.psac_model.specs.Fresh.{World}
use Rattle.psac_model.specs.Names.{Name, Heap}
use Rattle.psac_model.specs.Run.{Ran}
use Rattle.psac_report.specs.Session.{State, begun}
use Rattle.psac_command.specs.Asked.{Asked}
use Rattle.psac_engine.specs.Engine.{caps_in, grid_in, kept_in, world_in}
use Rattle.psac_session.specs.Answered.{IsScript, answer_of}
use Rattle.psac_session.specs.Attended.{hearing_of}
use Rattle.psac_session.specs.State.{kept_of, no_places, opening}
use Rattle.psac_open.specs.declared.opening.Opened.{Opened}
use Rattle.psac_open.specs.Loaded.{Files}
use Rattle.psac_open.specs.Named.{Began}
use Rattle.psac_run.specs.Reported.{IsAnswer, Wrote, WrotePart}
use Rattle.psac_run.proofs.Finished.{opened_answer}
use Rattle.psac_watch.specs.Over.{Over}
use Rattle.psac_watch.specs.Ended.{IsWatchedPart}
use Rattle.psac_watch.specs.Watched.{IsWatch, answer_at, hearing_at, watched_text}

begun_with : (g1 g : Grid) (kept : Option (Ran Name Heap)) (texts : Texts) → g1 ≡ g → kept ≡ None
    → record { grid = g1; texts = texts; kept = option_map kept_of kept; staged = put_all (empty_batch g1) g1; places = no_places }
    ≡ begun g texts
unfolding no_places
begun_with g1 g kept texts of_grid of_kept = rw (of_grid, of_kept) refl

moved : (is : World → Caps → State → Type 0) (w1 w : World) (c1 c : Caps) (s1 s : State) → w1 ≡ w → c1 ≡ c → s1 ≡ s
    → is w1 c1 s1 → is w c s
moved is w1 w c1 c s1 s of_world of_caps of_state told = rw (← of_world, ← of_caps, ← of_state) told

-- what holds of the engine holds over the program and the input
pub over : (files : Files) (a : Asked) (o : Opened) (is : World → Caps → State → Type 0) → Began files a o
    → is (world_in o.engine) (caps_in o.engine) (opening o.engine o.texts) → Over files (Some a) is
over files a o is b told =
    record {
      asked = a;
      words_are = refl;
      program = b.program.0;
      program_is = b.program.1;
      input = b.input;
      input_is = b.input_is;
      accepted = b.accepted;
      is_accepted = b.program.2;
      world = b.holds.world;
      grid = b.holds.grid;
      texts = o.texts;
      opens = b.holds.opens;
      holds = moved is (world_in o.engine) b.holds.world (caps_in o.engine) a.settings.caps (opening o.engine o.texts)
          (begun b.holds.grid o.texts) b.holds.engine_world b.holds.engine.caps
          (begun_with (grid_in o.engine) b.holds.grid (kept_in o.engine) o.texts b.holds.engine.grid b.holds.engine.kept) told;
    }

-- the text of a session is an answer to the words
answer_on : (files : Files) (a : Asked) (o : Opened) (told : Option (List ℕ)) (script : List ℕ) → Began files a o
    → IsScript told script
    → IsAnswer IsWatch 0 (watched_text (answer_of o.engine o.texts) (hearing_of o.engine o.texts) (lines_of script))
    files (Some a) told
unfolding over
answer_on files a o told script b is_script =
    let text = watched_text (answer_of o.engine o.texts) (hearing_of o.engine o.texts) (lines_of script) in
    let is : World → Caps → State → Type 0 = λ w caps s. text ≡ watched_text (answer_at w caps s) (hearing_at w caps s) (lines_of script) in
    opened_answer IsWatch files a o b told script text is_script (over files a o is b refl).holds

pub wrote_report : (files : Files) (a : Asked) (o : Opened) (told before now : Option (List ℕ)) (script : List ℕ)
    → Began files a o → IsScript told script
    → Appended before now (watched_text (answer_of o.engine o.texts) (hearing_of o.engine o.texts) (lines_of script))
    → Wrote IsWatch 0 files (Some a) told before now
wrote_report files a o told before now script b is_script written =
    record { text = _; is_answer = answer_on files a o told script b is_script; written = written }

pub wrote_part : (files : Files) (a : Asked) (o : Opened) (told before now : Option (List ℕ)) → Began files a o
    → IsWatchedPart (answer_of o.engine o.texts) (hearing_of o.engine o.texts) told before now
    → WrotePart IsWatch files (Some a) told before now
wrote_part files a o told before now b part =
    record {
      status = 0;
      text = _;
      is_answer = answer_on files a o told part.script b part.is_script;
      written = part.written;
    }
