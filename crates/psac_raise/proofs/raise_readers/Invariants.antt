-- What was raised so far, and the links that are still to come.
use Rattle.std.proofs.Common.{◌≡◌}
use Rattle.psac_readers.specs.Steps.{chain_of}
use Rattle.psac_raise.specs.Raise.{left_of}
use Rattle.psac_raise.proofs.Going.{Going}
use Rattle.psac_raise.proofs.raise_readers.Given as goal

abbrev pub invariant-loop-at : goal.invariant-loop-at
invariant-loop-at l =
    (l.sets.table ≡ l.fn.sets.table) × (l.nodes.table ≡ l.fn.nodes.table) × Going l.fn.sets.knows l.fn.m.slot l.fn.nodes.knows l.sets.knows l.nodes.knows l.at

abbrev pub decreases-loop-at : goal.decreases-loop-at
decreases-loop-at l = left_of (chain_of l.fn.m.slot l.sets.knows.walk) l.at
