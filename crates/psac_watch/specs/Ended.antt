-- A session that is watched, from its beginning to its status.
use Rattle.std.specs.Prelude.{◌≡◌, ◌⊎◌, ℕ, ◌+◌, ◌≤◌, ◌↔◌, List, Option}
use Rattle.psac_base.specs.Causes.{Rose}
use Rattle.psac_base.specs.Feeds.{lines_of}
use Rattle.psac_base.specs.Outside.{Appended, AppendedPart}
use Rattle.psac_session.specs.Answered.{Answer, AnsweredLong, AnsweredWhole, IsScript, ReadOut}
use Rattle.psac_session.specs.Attended.{Hearing}
use Rattle.psac_session.specs.declared.end.SessionEnd.{SessionEnd}
use Rattle.psac_session.specs.declared.end.SessionEnd.TheVariants as end
use Rattle.psac_publish.specs.declared.seen.Seen.{Seen}
use Rattle.psac_run.specs.Served.{IsServed}
use Rattle.psac_watch.specs.Held.{SourceView}
use Rattle.psac_watch.specs.Watched.{IsSeen, IsSeenWhole, count_line, watched_text}

-- a first part of the report was written
pub record IsWatchedPart (answer : Answer) (hearing : Hearing) (told before now : Option (List ℕ)) : Type 0 where
  pub script : List ℕ
  pub is_script : IsScript told script
  pub written : AppendedPart before now (watched_text answer hearing (lines_of script))

-- what was read, written and seen of a session with this status
pub record IsWatched (answer : Answer) (hearing : Hearing) (script script_now : SourceView)
    (before now : Option (List ℕ)) (faults faults_now : ℕ) (seen seen_now : Option (List Seen)) (code : ℕ) : Type 0 where
  pub status : IsServed code
  pub whole : code ≡ 0 → IsSeenWhole answer hearing script.left before now seen seen_now
  pub read : code ≡ 0 → ReadOut script.left script_now.left script.taken script_now.taken
  pub part : IsWatchedPart answer hearing script.left before now
  pub shown : IsSeen hearing script.left seen seen_now
  pub source : code ≡ 6 → Rose script.faults script_now.faults
  pub broken : code ≡ 6 → AnsweredWhole answer script.left script_now.left before now
  pub sink : code ≡ 7 → Rose faults faults_now
  pub long : (code ≡ 8) ↔ (script_now.taken ≡ script.taken + 16777217)
  pub much : code ≡ 8 → AnsweredLong answer script.left script_now.left before now

-- what is written behind a session that ended so, and the status
pub record IsEnded (ended : SessionEnd) (count : ℕ) (before now : Option (List ℕ)) (faults faults_now code : ℕ) : Type 0 where
  pub status : IsServed code
  pub done : code ≡ 0 → (ended ≡ end.Done) × Appended before now (count_line count)
  pub part : ended ≡ end.Done → AppendedPart before now (count_line count)
  pub same : (ended ≡ end.Done) ⊎ (now ≡ before)
  pub source : code ≡ 6 → ended ≡ end.SourceFailed
  pub sink : code ≡ 7 → (ended ≡ end.SinkFailed) ⊎ Rose faults faults_now
  pub later : faults ≤ faults_now
  pub long : (code ≡ 8) ↔ (ended ≡ end.TooLong)
