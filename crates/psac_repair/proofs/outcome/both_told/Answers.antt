use Rattle.psac_traced.specs.Mending.{beside as both}
use Rattle.psac_repair.proofs.outcome.both_told.Goals as goal

pub returns-in-Ok-two-clause-sums : goal.returns-in-Ok-two-clause-sums
returns-in-Ok-two-clause-sums c = (c.in-Ok.a, c.in-Ok-two.b, c.in-Ok.is, c.in-Ok-two.is, λ a b e f. c.below.ensures (both a b) (c.beside.ensures a b e f))
