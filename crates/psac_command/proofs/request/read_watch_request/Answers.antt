use Rattle.psac_command.proofs.Wanted.{no_watch_is, watch_is}
use Rattle.psac_command.proofs.request.read_watch_request.Goals as goal

pub returns-in-Some-clause-asked : goal.returns-in-Some-clause-asked
returns-in-Some-clause-asked c =
    watch_is _ _ _ _ c.in-Some.is c.in_ok-texts.ensures.taken c.in_ok-texts.ensures.texts (rw c.watch_mode_in.ensures at c.read_texts.ensures.value)

pub returns-in-None-clause-asked : goal.returns-in-None-clause-asked
returns-in-None-clause-asked c = no_watch_is _ _ c.in-None.is c.in_ok-texts.ensures.taken
