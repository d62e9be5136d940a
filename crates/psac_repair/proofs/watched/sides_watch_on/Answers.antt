use Rattle.psac_repair.proofs.Wakes.{sides_watch}
use Rattle.psac_repair.proofs.watched.sides_watch_on.Goals as goal

pub returns : goal.returns
returns c = sides_watch
