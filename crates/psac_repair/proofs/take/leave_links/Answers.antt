use Rattle.psac_record.specs.Shown.{kept_of}
use Rattle.psac_repair.proofs.Linking.{relinked_tree}
use Rattle.psac_repair.proofs.take.leave_links.Goals as goal

pub returns-clause-relinked : goal.returns-clause-relinked
returns-clause-relinked c =
    relinked_tree c.args.pass.now.knows c.leave_each.new.pass.knows (kept_of c.args.tree.now) c.requires.linked c.requires.once c.leave_each.ensures.left
