use Rattle.std.proofs.Common.{arith, ◌∙◌}
use Rattle.psac_slots.proofs.Rewinds.{taken_few, taken_all}
use Rattle.psac_slots.proofs.claims.taken.Goals as goal

pub returns-then-counter-from : goal.returns-then-counter-from
returns-then-counter-from c = λ l e. let t = c.if-counter-from.true in let f = c.from.ensures in taken_few c.args.counter l (omega (arith, t, f, e))

pub returns-else-counter-from : goal.returns-else-counter-from
returns-else-counter-from c = λ l e. let t = c.if-counter-from.false in let f = c.from.ensures in taken_all c.args.counter l (omega (arith, t, f, e)) ∙ e
