use Rattle.std.proofs.Common.{length}
use Rattle.psac_record.specs.Shown.{chain_of}
use Rattle.psac_record.proofs.chain.let_go.Given as goal

abbrev pub decreases-loop-chain : goal.decreases-loop-chain
decreases-loop-chain l = length (chain_of l.chain)
