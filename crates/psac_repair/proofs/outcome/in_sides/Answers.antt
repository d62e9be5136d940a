use Rattle.psac_record.specs.Dropped.{dropped_of}
use Rattle.psac_record.specs.Shown.{kept_of}
use Rattle.psac_repair.proofs.Counted.{counts_sides}
use Rattle.psac_repair.proofs.outcome.in_sides.Goals as goal

pub returns-clause-counts : goal.returns-clause-counts
returns-clause-counts c = λ a b h i.
    counts_sides c.args.place.value.node a b (kept_of c.args.one.tree) (kept_of c.args.two.tree) (kept_of c.together.result) (dropped_of c.args.one.dropped) (dropped_of c.args.two.dropped) (dropped_of c.join.result) c.args.one.told c.args.two.told c.join.ensures c.both_told.result c.together.ensures c.both_told.ensures.sums h i
