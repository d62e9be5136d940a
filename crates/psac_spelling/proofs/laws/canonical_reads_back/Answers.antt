use Rattle.psac_spelling.proofs.Law.{reads_back}
use Rattle.psac_spelling.proofs.laws.canonical_reads_back.Goals as goal

pub returns : goal.returns
returns c = reads_back
