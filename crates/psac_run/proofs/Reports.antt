-- What is done with an engine, as a report over the program and the input that opened it.
use Rattle.std.proofs.Common.{◌≡◌, ◌⊎◌, inl, inr, ℕ, ◌≤◌, List, Option, Some, None, option_map, refl, sym, ◌∙◌, arith}
use Rattle.psac_base.specs.Feeds.{lines_of}
use Rattle.psac_inputs.specs.Batch.{empty_batch, put_all}
use Rattle.psac_inputs.specs.Grid.{Grid}
use Rattle.psac_inputs.specs.Texts.{Texts}
use Rattle.psac_model.specs.declared.ends.Caps.{Caps}
use Rattle.psac_model.specs.Fresh.{World}
use Rattle.psac_model.specs.Names.{Name, Heap}
use Rattle.psac_model.specs.Run.{Ran}
use Rattle.psac_report.specs.Report.{once_report, session_report}
use Rattle.psac_report.specs.Session.{begun, step_of}
use Rattle.psac_report.specs.Steps.{replies_by}
use Rattle.psac_report.proofs.Steps.{replies_same}
use Rattle.psac_command.specs.declared.request.Mode.{Mode}
use Rattle.psac_command.specs.declared.request.Mode.TheVariants.{Once, Session}
use Rattle.psac_command.specs.Asked.{Asked}
use Rattle.psac_engine.specs.declared.engine.Engine.{Engine}
use Rattle.psac_engine.specs.Engine.{IsOpened, caps_in, grid_in, kept_in, world_in}
use Rattle.psac_session.specs.State.{kept_of, no_places}
use Rattle.psac_session.specs.Answered.{Answer, IsScript, answer_of}
use Rattle.psac_open.specs.declared.opening.Opened.{Opened}
use Rattle.psac_run.specs.Served.{IsServed, Served, ServedPart, report_in}
use Rattle.psac_open.specs.Loaded.{Files}
use Rattle.psac_open.specs.Named.{Began}
use Rattle.psac_run.specs.Answer.{Held, IsReport, Wrote, WrotePart, answers_of, report_of}
use Rattle.psac_run.specs.Reported.{HasText, IsAnswer}
use Rattle.psac_run.proofs.Finished.{opened_answer, text_low}

answers_with : (w1 w : World) (c1 c : Caps) (g1 g : Grid) (kept : Option (Ran Name Heap)) (texts : Texts) (lines : List (List ℕ)) → w1 ≡ w → c1 ≡ c → g1 ≡ g → kept ≡ None
    → replies_by w1 (step_of w1 c1) lines (record { grid = g1; texts = texts; kept = option_map kept_of kept; staged = put_all (empty_batch g1) g1; places = no_places })
    ≡ replies_by w (step_of w c) lines (begun g texts)
unfolding no_places
answers_with w1 w c1 c g1 g kept texts lines of_world of_caps of_grid of_kept = rw (of_world, of_caps, of_grid, of_kept) refl

pub answers_same : (w : World) (c : Caps) (g : Grid) (e : Engine) (texts : Texts) (lines : List (List ℕ)) → world_in e ≡ w → IsOpened c g e → answer_of e texts lines ≡ answers_of w c g texts lines
answers_same w c g e texts lines of is =
    answers_with (world_in e) w (caps_in e) c (grid_in e) g (kept_in e) texts lines of is.caps is.grid is.kept ∙ sym (replies_same w c lines (begun g texts))

once_with : (w1 w : World) (c1 c : Caps) (g1 g : Grid) (texts : Texts) → w1 ≡ w → c1 ≡ c → g1 ≡ g → once_report w1 c1 g1 texts ≡ once_report w c g texts
once_with w1 w c1 c g1 g texts of_world of_caps of_grid = rw (of_world, of_caps, of_grid) refl

report_same : (mode : Mode) (w : World) (c : Caps) (g : Grid) (e : Engine) (texts : Texts) (script : List ℕ) → world_in e ≡ w → IsOpened c g e → report_in mode e texts script ≡ report_of mode w c g texts script
unfolding session_report
report_same Once w c g e texts script of is = once_with (world_in e) w (caps_in e) c (grid_in e) g texts of is.caps is.grid
report_same Session w c g e texts script of is = answers_same w c g e texts (lines_of script) of is

-- ---- what was written

answer_on : (files : Files) (a : Asked) (o : Opened) (told : Option (List ℕ)) (script : List ℕ) → Began files a o → IsScript told script
    → IsAnswer (IsReport (Some a)) 0 (report_in a.mode o.engine o.texts script) files (Some a) told
answer_on files a o told script b is_script =
    opened_answer (IsReport (Some a)) files a o b told script (report_in a.mode o.engine o.texts script) is_script
    (report_same a.mode b.holds.world a.settings.caps b.holds.grid o.engine o.texts script b.holds.engine_world b.holds.engine)

pub wrote_report : (files : Files) (a : Asked) (o : Opened) (told before now : Option (List ℕ)) → Began files a o
    → Served a.mode o.engine o.texts told before now → Wrote 0 files (Some a) told before now
wrote_report files a o told before now b served =
    record { text = _; is_answer = answer_on files a o told served.script b served.is_script; written = served.written }

pub wrote_part : (files : Files) (a : Asked) (o : Opened) (told before now : Option (List ℕ)) → Began files a o
    → ServedPart a.mode o.engine o.texts told before now → WrotePart files (Some a) told before now
wrote_part files a o told before now b served =
    record { status = 0; text = _; is_answer = answer_on files a o told served.script b served.is_script; written = served.written }

is_session : (mode : Mode) (code n : ℕ) → code ≡ n → (n ≡ 6) ⊎ (n ≡ 8) → (mode ≡ Once → ((code ≡ 6) ⊎ (code ≡ 8)) → ⊥) → mode ≡ Session
is_session Session code n e at single = refl
is_session Once code n e (inl six) single = absurd (single refl (inl (e ∙ six)))
is_session Once code n e (inr eight) single = absurd (single refl (inr (e ∙ eight)))

-- a session was held, where the status says so
pub held : (files : Files) (a : Asked) (o : Opened) (code n : ℕ) (is : Answer → Type 0) → Began files a o
    → code ≡ n → (n ≡ 6) ⊎ (n ≡ 8) → (a.mode ≡ Once → ((code ≡ 6) ⊎ (code ≡ 8)) → ⊥)
    → ((f h : Answer) → ((lines : List (List ℕ)) → f lines ≡ h lines) → is f → is h) → is (answer_of o.engine o.texts) → Held files (Some a) is
held files a o code n is b e at single by told =
    record {
      asked = a;
      words_are = refl;
      mode_is = is_session a.mode code n e at single;
      program = b.program.0;
      program_is = b.program.1;
      input = b.input;
      input_is = b.input_is;
      accepted = b.accepted;
      is_accepted = b.program.2;
      world = b.holds.world;
      grid = b.holds.grid;
      texts = o.texts;
      opens = b.holds.opens;
      holds = by (answer_of o.engine o.texts) (answers_of b.holds.world a.settings.caps b.holds.grid o.texts)
          (λ lines. answers_same b.holds.world a.settings.caps b.holds.grid o.engine o.texts lines b.holds.engine_world b.holds.engine) told;
    }

-- ---- statuses

pub served_zero : (code : ℕ) → IsServed code → HasText code → code ≡ 0
served_zero code served has = by served (text_low code has)
  where
    by : IsServed code → code ≤ 5 → code ≡ 0
    by (inl e) low = e
    by (inr (inl e)) low = absurd (omega (arith, e, low))
    by (inr (inr (inl e))) low = absurd (omega (arith, e, low))
    by (inr (inr (inr (inl e)))) low = absurd (omega (arith, e, low))
    by (inr (inr (inr (inr e)))) low = absurd (omega (arith, e, low))
