use Rattle.psac_repair.proofs.Visiting.{quiet_top}
use Rattle.psac_repair.proofs.visit.asked.Goals as goal

pub returns-clause-quiet : goal.returns-clause-quiet
returns-clause-quiet c = λ above k top ns f.
    quiet_top c.args.pass.marks.knows k c.args.node c.is_marked-marked.result c.is_marked-marked.ensures.closed c.is_marked-marked.ensures.marked above top ns f
