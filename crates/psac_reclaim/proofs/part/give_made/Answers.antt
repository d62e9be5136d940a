use Rattle.std.proofs.Common.{◌∷◌, [], sym, subst}
use Rattle.psac_values.specs.declared.view.ValueView.{ValueView}
use Rattle.psac_reclaim.specs.Gave.{ValuesGave}
use Rattle.psac_reclaim.proofs.Giving.{value_gave}
use Rattle.psac_reclaim.proofs.part.give_made.Goals as goal

pub returns-clause-gave : goal.returns-clause-gave
returns-clause-gave c = subst (λ (u : ValueView). ValuesGave (c.args.m ∷ []) c.args.pass.now.knows u) (sym c.give.ensures.gave) (value_gave c.args.pass.now.knows c.args.m c.requires.begun c.requires.once c.requires.out)
