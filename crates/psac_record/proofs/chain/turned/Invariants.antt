use Rattle.std.proofs.Common.{◌≡◌, ◌++◌, reverse, length}
use Rattle.psac_record.specs.Shown.{chain_of}
use Rattle.psac_record.proofs.chain.turned.Given as goal

abbrev pub invariant-loop-from : goal.invariant-loop-from
invariant-loop-from l = reverse (chain_of l.from) ++ chain_of l.onto ≡ reverse (chain_of l.initial.from) ++ chain_of l.initial.onto

abbrev pub decreases-loop-from : goal.decreases-loop-from
decreases-loop-from l = length (chain_of l.from)
