use Rattle.std.proofs.Common.{None}
use Rattle.psac_publish.proofs.tests.a_value_crosses_threads.Given as goal

-- the history that was just opened
abbrev pub ghosts-two_threads : goal.ghosts-two_threads
ghosts-two_threads g a = record { book = a.opened.token.book; course = None }
