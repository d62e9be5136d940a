-- What a session with a listener did.
use Rattle.std.specs.Prelude.{◌≡◌, ℕ, ◌+◌, ◌≤◌, ◌↔◌, List, [], ◌∷◌, length, Option}
use Rattle.psac_base.specs.Causes.{Rose}
use Rattle.psac_session.specs.Answered.{Answer, AnsweredLong, AnsweredWhole, ReadOut}
use Rattle.psac_session.specs.Attended.{Attended, AttendedPart, Hearing}
use Rattle.psac_session.specs.Heard.{Outward}
use Rattle.psac_session.specs.declared.end.SessionEnd.{SessionEnd}
use Rattle.psac_session.specs.declared.end.SessionEnd.TheVariants as end
use Rattle.psac_publish.specs.declared.seen.Seen.{Seen}
use Rattle.psac_publish.specs.History.{nothing}
use Rattle.psac_watch.specs.Published.{heard_in}

-- what a source tells: what is left, how much was taken, and how often a read failed
pub record SourceView : Type 0 where
  pub left : Option (List ℕ)
  pub taken : ℕ
  pub faults : ℕ

abbrev pub source_of : Option (List ℕ) → ℕ → ℕ → SourceView
source_of left taken faults = record { left = left; taken = taken; faults = faults }

-- what was read, written and heard, and how it ended
pub record IsHeld (answer : Answer) (hearing : Hearing) (script script_now : SourceView) (before now : Outward) (faults faults_now : ℕ) (ended : SessionEnd) : Type 0 where
  -- the whole report was written, all commits of that script were heard, and it was read to its end or to `quit`
  pub done : ended ≡ end.Done → Attended answer hearing script.left before now
  pub read : ended ≡ end.Done → ReadOut script.left script_now.left script.taken script_now.taken
  -- a first part of the report was written, and the first commits were heard
  pub part : AttendedPart answer hearing script.left before now
  -- a read failed, and the whole lines of what was read were answered
  pub source : ended ≡ end.SourceFailed → Rose script.faults script_now.faults
  pub broken : ended ≡ end.SourceFailed → AnsweredWhole answer script.left script_now.left before.0 now.0
  -- a write failed; the count of such faults never falls
  pub sink : ended ≡ end.SinkFailed → Rose faults faults_now
  pub later : faults ≤ faults_now
  -- too much was read, exactly there
  pub long : (ended ≡ end.TooLong) ↔ (script_now.taken ≡ script.taken + 16777217)
  pub much : ended ≡ end.TooLong → AnsweredLong answer script.left script_now.left before.0 now.0

-- what was published of the session, from commit 0 on: there is one value for each number of commits
pub record IsFollowed (answer : Answer) (hearing : Hearing) (script script_now : SourceView) (written written_now : Option (List ℕ)) (faults faults_now : ℕ) (ended : SessionEnd) (count : ℕ) : Type 0 where
  pub log : List Seen
  pub held : IsHeld answer hearing script script_now (written, heard_in (nothing ∷ [])) (written_now, heard_in log) faults faults_now ended
  pub counted : length log ≡ count + 1
