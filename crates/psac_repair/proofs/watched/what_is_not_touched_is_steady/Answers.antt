use Rattle.psac_repair.proofs.Wakes.{steady_part, steady_watch, steady_run}
use Rattle.psac_repair.proofs.watched.what_is_not_touched_is_steady.Goals as goal

pub returns-clause-parts : goal.returns-clause-parts
returns-clause-parts c = steady_part

pub returns-clause-watched : goal.returns-clause-watched
returns-clause-watched c = steady_watch

pub returns-clause-run : goal.returns-clause-run
returns-clause-run c = steady_run
