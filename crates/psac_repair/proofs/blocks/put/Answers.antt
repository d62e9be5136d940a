use Rattle.psac_repair.proofs.Indexed.{one_put}
use Rattle.psac_repair.proofs.blocks.put.Goals as goal

pub returns : goal.returns
returns c =
    let long = c.in_ok-reach.ensures in
    one_put c.args.number c.args.code c.args.blocks.now.items c.reach.new.blocks.items long.reached long.kept
