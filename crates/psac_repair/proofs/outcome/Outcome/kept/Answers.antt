use Rattle.psac_record.specs.Dropped.{dropped_of}
use Rattle.psac_record.specs.Shown.{kept_of}
use Rattle.psac_repair.proofs.Counted.{counts_kept}
use Rattle.psac_repair.proofs.outcome.Outcome.kept.Goals as goal

pub returns-clause-counts : goal.returns-clause-counts
returns-clause-counts c = counts_kept (kept_of c.args.tree) c.untouched.result (dropped_of c.new.result) c.untouched.ensures c.new.ensures
