use Rattle.psac_readers.proofs.Terms.{◌≡◌, Some, Accounted, Going, remaining}
use Rattle.psac_readers.proofs.readers.Readers.take_off.Given as goal

abbrev pub invariant-loop-word : goal.invariant-loop-word
invariant-loop-word l = (l.pass.table ≡ l.fn.pass.table) × (l.pass.knows.claims.counter ≡ Some 0) × Going l.fn.all l.fn.pass.knows l.fn.m l.pass.knows l.before l.word × Accounted l.pass.knows.claims

abbrev pub decreases-loop-word : goal.decreases-loop-word
decreases-loop-word l = remaining l.fn.m l.pass.knows l.word
