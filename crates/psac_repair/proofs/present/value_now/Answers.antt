use Rattle.std.proofs.Common.{sym}
use Rattle.psac_repair.proofs.Sighted.{value_is, never}
use Rattle.psac_repair.proofs.present.value_now.Goals as goal

pub returns-in-Some-clause-value : goal.returns-in-Some-clause-value
returns-in-Some-clause-value c = λ x s.
    value_is c.args.pass.now.knows c.args.seen.now.from _ c.read-words.ensures.words c.in-Some.value (sym c.in-Some.ensures.value) x s

pub returns-in-None-clause-value : goal.returns-in-None-clause-value
returns-in-None-clause-value c = λ x s.
    never c.args.pass.now.knows c.args.seen.now.from _ c.read-words.ensures.words (sym c.in-None.ensures.value) x s
