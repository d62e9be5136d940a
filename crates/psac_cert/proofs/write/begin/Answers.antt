use Rattle.psac_cert.proofs.Dumped.{dumped}
use Rattle.psac_cert.proofs.write.begin.Goals as goal

pub returns : goal.returns
returns c =
    dumped c.in_ok-with.with c.args.tree.now c.args.program.now c.args.grid.now c.args.texts.now _ c.in_ok-with.ensures.program c.in_ok-with.ensures.texts c.in_ok-with.ensures.names (c.in_ok-left.ensures c.in_ok-with.with)
