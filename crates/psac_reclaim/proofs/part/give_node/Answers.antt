use Rattle.std.proofs.Common.{◌∷◌, [], sym, subst}
use Rattle.psac_marks.specs.declared.view.MarksView.{MarksView}
use Rattle.psac_reclaim.specs.Gave.{MarksGave}
use Rattle.psac_reclaim.proofs.Giving.{node_gave}
use Rattle.psac_reclaim.proofs.part.give_node.Goals as goal

pub returns-clause-gave : goal.returns-clause-gave
returns-clause-gave c = subst (λ (u : MarksView). MarksGave (c.args.node ∷ []) c.args.pass.now.knows u) (sym c.release.ensures.released) (node_gave c.args.pass.now.knows c.args.node c.requires.begun c.requires.once c.requires.may.out)
