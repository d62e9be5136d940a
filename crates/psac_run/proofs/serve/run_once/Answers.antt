use Rattle.std.proofs.Common.{◌∙◌}
use Rattle.psac_run.proofs.Parts.{finished_part, nothing_served, once_part, once_served}
use Rattle.psac_run.proofs.serve.run_once.Goals as goal

pub returns-in-Ok-clause-whole : goal.returns-in-Ok-clause-whole
returns-in-Ok-clause-whole g c = λ zero told.
    once_served _ _ told _ _ (rw (c.deref.ensures.value, c.in-Ok.ensures) at c.finish.ensures.whole zero)

pub returns-in-Ok-clause-part : goal.returns-in-Ok-clause-part
returns-in-Ok-clause-part g c = λ told.
    once_part _ _ told _ _ _ (c.deref.ensures.value ∙ c.in-Ok.ensures) (finished_part _ _ _ _ c.finish.ensures.status c.finish.ensures.whole c.finish.ensures.part)

pub returns-in-Err-clause-part : goal.returns-in-Err-clause-part
returns-in-Err-clause-part g c = λ told. nothing_served _ _ _ told _
