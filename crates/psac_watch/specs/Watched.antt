-- What is written of a session that is watched, and what is seen of it.
use Rattle.std.specs.Prelude.{◌≡◌, ℕ, List, ◌∷◌, ◌++◌, length, Option, Some, None, option_map, codes}
use Rattle.std.specs.Fmt.{decimal}
use Rattle.psac_base.specs.Feeds.{lines_of}
use Rattle.psac_base.specs.Outside.{Appended}
use Rattle.psac_model.specs.declared.ends.Caps.{Caps}
use Rattle.psac_model.specs.Fresh.{World}
use Rattle.psac_report.specs.Printed.{line_of}
use Rattle.psac_report.specs.Session.{State, begun, step_of}
use Rattle.psac_report.specs.Steps.{replies_by}
use Rattle.psac_session.specs.Answered.{Answer, IsScript}
use Rattle.psac_session.specs.Attended.{Hearing}
use Rattle.psac_session.specs.Heard.{shows_after}
use Rattle.psac_publish.specs.declared.seen.Seen.{Seen}
use Rattle.psac_publish.specs.History.{Course}
use Rattle.psac_run.specs.Reported.{Report}
use Rattle.psac_watch.specs.Showed.{Showed}

-- what is answered to lines from a state on, and what is heard of them
abbrev pub answer_at : World → Caps → State → Answer
answer_at w caps s lines = replies_by w (step_of w caps) lines s

abbrev pub hearing_at : World → Caps → State → Hearing
hearing_at w caps s lines = shows_after w (step_of w caps) lines s

-- the line that says how many commits there were
abbrev pub count_line : ℕ → List ℕ
count_line n = line_of (codes "watched " ++ decimal n)

-- the replies to lines, and then how many commits there were
abbrev pub watched_text : Answer → Hearing → List (List ℕ) → List ℕ
watched_text answer hearing lines = answer lines ++ count_line (length (hearing lines))

-- the report of a session that is watched
abbrev pub IsWatch : Report
IsWatch w caps g texts script text =
    text ≡ watched_text (answer_at w caps (begun g texts)) (hearing_at w caps (begun g texts)) (lines_of script)

-- what is shown after each number of commits, from none on, where the script is told
abbrev pub course_of : Hearing → Option (List ℕ) → Course
course_of hearing told = option_map (λ script. None ∷ hearing (lines_of script)) told

-- an eye was shown values with rising numbers of commits, each with what is shown after so many, where the script is told
pub record IsSeen (hearing : Hearing) (told : Option (List ℕ)) (seen seen_now : Option (List Seen)) : Type 0 where
  pub last : Option ℕ
  pub showed : Showed (course_of hearing told) None last seen seen_now

-- the whole report was written, and the last value that an eye was shown is that of the last commit
pub record IsSeenWhole (answer : Answer) (hearing : Hearing) (told before now : Option (List ℕ))
    (seen seen_now : Option (List Seen)) : Type 0 where
  pub script : List ℕ
  pub is_script : IsScript told script
  pub written : Appended before now (watched_text answer hearing (lines_of script))
  pub showed : Showed (course_of hearing told) None (Some (length (hearing (lines_of script)))) seen seen_now
