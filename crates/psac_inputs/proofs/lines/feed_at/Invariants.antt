use Rattle.psac_base.specs.Feeds.{NoFeed}
use Rattle.psac_inputs.proofs.lines.feed_at.Given as goal

abbrev pub invariant-loop-i : goal.invariant-loop-i
invariant-loop-i l = NoFeed l.bytes 0 l.i
