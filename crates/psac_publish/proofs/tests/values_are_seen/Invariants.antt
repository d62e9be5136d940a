use Rattle.std.proofs.Common.{None}
use Rattle.psac_publish.proofs.tests.values_are_seen.Given as goal

-- the history that was just opened
abbrev pub ghosts-two_values : goal.ghosts-two_values
ghosts-two_values g a = record { book = a.opened.token.book; course = None }
