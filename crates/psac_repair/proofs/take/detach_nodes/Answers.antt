use Rattle.psac_record.specs.Shown.{kept_of}
use Rattle.psac_repair.proofs.Passing.{passed_off}
use Rattle.psac_repair.proofs.take.detach_nodes.Goals as goal

pub returns-clause-passed : goal.returns-clause-passed
returns-clause-passed c = passed_off c.args.pass.now.knows c.detach_each.new.pass.knows (kept_of c.args.tree.now) c.detach_each.ensures.detached
