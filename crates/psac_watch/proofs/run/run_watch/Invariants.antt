use Rattle.psac_session.specs.Attended.{hearing_of}
use Rattle.psac_watch.specs.Watched.{course_of}
use Rattle.psac_watch.proofs.run.run_watch.Given as goal

-- the history that was just opened; where the script is told, its values are what is heard of it
abbrev pub ghosts-run_in : goal.ghosts-run_in
ghosts-run_in g a = record {
  book = a.history.token.book;
  course = course_of (hearing_of a.opened.now.engine a.opened.now.texts) (g.S.Source.left a.script.now);
}
