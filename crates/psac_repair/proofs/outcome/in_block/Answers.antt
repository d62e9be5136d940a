use Rattle.psac_record.specs.Dropped.{dropped_of}
use Rattle.psac_record.specs.Shown.{kept_of}
use Rattle.psac_repair.proofs.Counted.{counts_block}
use Rattle.psac_repair.proofs.outcome.in_block.Goals as goal

pub returns-clause-counts : goal.returns-clause-counts
returns-clause-counts c = λ k h.
    counts_block c.args.place.value.reading k (kept_of c.args.inner.tree) (kept_of c.together.result) (dropped_of c.args.inner.dropped) c.args.inner.told c.told_below.result c.together.ensures c.told_below.ensures.sums h
