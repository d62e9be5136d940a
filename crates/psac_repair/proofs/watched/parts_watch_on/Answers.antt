use Rattle.psac_repair.proofs.Wakes.{steps_watch, turns_watch}
use Rattle.psac_repair.proofs.watched.parts_watch_on.Goals as goal

pub returns-clause-steps : goal.returns-clause-steps
returns-clause-steps c = steps_watch

pub returns-clause-turns : goal.returns-clause-turns
returns-clause-turns c = turns_watch
