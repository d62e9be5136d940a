use Rattle.std.proofs.Common.{rules}
use Rattle.psac_inputs.proofs.LineParts.{feed_line, open_line}
use Rattle.psac_inputs.proofs.lines.split_line.Goals as goal

pub returns-then-end-bytes-clause-line : goal.returns-then-end-bytes-clause-line
returns-then-end-bytes-clause-line c =
    feed_line c.args.bytes.now c.feed_at-end.result _ c.if-end-bytes.true (c.feed_at-end.ensures.found c.if-end-bytes.true) c.feed_at-end.ensures.none c.without_return.ensures

pub returns-else-end-bytes-clause-line : goal.returns-else-end-bytes-clause-line
returns-else-end-bytes-clause-line c =
    open_line c.args.bytes.now c.feed_at-end.result (search rules) c.if-end-bytes.false c.feed_at-end.ensures.within c.feed_at-end.ensures.none
