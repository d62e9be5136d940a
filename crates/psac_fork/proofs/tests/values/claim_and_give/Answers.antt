use Rattle.std.proofs.Common.{suc, ap, ◌∙◌}
use Rattle.psac_slots.specs.Claiming.{counted_on}
use Rattle.psac_values.specs.declared.view.ValueView.{ValueView}
use Rattle.psac_fork.proofs.tests.values.claim_and_give.Goals as goal

pub give_all-requires-clause-sole : goal.give_all-requires-clause-sole
give_all-requires-clause-sole c =
    let r = c.in-Ok.ensures.ok in
    (suc r.0, ap (λ (u : ValueView). u.claims.counter) r.5 ∙ ap (λ o. counted_on o r.0) c.requires.sole.1)

pub give-requires-clause-sole : goal.give-requires-clause-sole
give-requires-clause-sole c =
    let r = c.in-Ok.ensures.ok in
    (suc r.0, ap (λ (u : ValueView). u.claims.counter) r.5 ∙ ap (λ o. counted_on o r.0) c.requires.sole.1)
