use Rattle.psac_grammar.proofs.Verdicts.{one_verdict}
use Rattle.psac_grammar.proofs.laws.one_verdict.Goals as goal

pub returns : goal.returns
returns c bytes = one_verdict bytes
