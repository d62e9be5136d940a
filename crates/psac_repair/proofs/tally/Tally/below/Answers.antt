use Rattle.psac_repair.proofs.Tallying.{tally_below}
use Rattle.psac_repair.proofs.tally.Tally.below.Goals as goal

pub returns : goal.returns
returns c = λ d e. tally_below c.args.self d c.count_of.result e c.if-self-eq0.false c.count_of.ensures
