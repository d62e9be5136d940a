use Rattle.psac_watch.proofs.Ending.{unopened, watched}
use Rattle.psac_watch.proofs.run.run_in.Goals as goal

pub returns-in_default : goal.returns-in_default
returns-in_default g c = unopened _ _ _ _ _ _

pub returns : goal.returns
returns g c =
    watched _ _ _ _ _ _ _ _ _ _ _ _ _ _ _ _ c.follow-followed.ensures.held c.end_with.ensures
    (rw c.requires.course at c.follow-followed.ensures.shown) c.follow-followed.ensures.last
