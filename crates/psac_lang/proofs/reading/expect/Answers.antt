use Rattle.std.proofs.Common.{[]}
use Rattle.psac_grammar.specs.Machine.{mark, no_limit, builds_nothing, first}
use Rattle.psac_lang.proofs.Moves.{one_of_moves}
use Rattle.psac_lang.proofs.reading.expect.Goals as goal

pub returns-clause-reads : goal.returns-clause-reads
returns-clause-reads c s vs = c.take.ensures.takes (mark c.args.kind) [] [] s vs (one_of_moves c.args.kind no_limit builds_nothing (first c.args.tokens.now))
