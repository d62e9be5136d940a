use Rattle.psac_command.proofs.Wanted.{no_single_is, single_is}
use Rattle.psac_command.proofs.request.read_single_request.Goals as goal

pub returns-in-Some-clause-asked : goal.returns-in-Some-clause-asked
returns-in-Some-clause-asked c =
    single_is c.args.name.now _ _ _ _ c.in-Some.is c.in_ok-texts.ensures.taken c.in_ok-texts.ensures.texts (rw c.single_mode_in.ensures at c.read_texts.ensures.value)

pub returns-in-None-clause-asked : goal.returns-in-None-clause-asked
returns-in-None-clause-asked c = no_single_is c.args.name.now _ _ c.in-None.is c.in_ok-texts.ensures.taken
