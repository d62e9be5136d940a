use Rattle.psac_command.proofs.Wanted.{asked_is, nothing_is}
use Rattle.psac_command.proofs.request.read_request.Goals as goal

pub returns-in-Some-clause-asked : goal.returns-in-Some-clause-asked
returns-in-Some-clause-asked c =
    asked_is _ _ _ _ c.in-Some.is c.in_ok-texts.ensures.taken c.in_ok-texts.ensures.texts (rw c.mode_in.ensures at c.read_texts.ensures.value)

pub returns-in-None-clause-asked : goal.returns-in-None-clause-asked
returns-in-None-clause-asked c = nothing_is _ _ c.in-None.is c.in_ok-texts.ensures.taken
