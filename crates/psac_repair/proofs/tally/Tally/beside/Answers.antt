use Rattle.psac_repair.proofs.Tallying.{tally_beside}
use Rattle.psac_repair.proofs.tally.Tally.beside.Goals as goal

pub returns : goal.returns
returns c = λ a b e f.
    tally_beside c.args.self c.args.other a b c.count_of.result c.count_of-2.result c.sum_of.result c.sum_of-2.result e f c.count_of.ensures c.count_of-2.ensures c.sum_of.ensures c.sum_of-2.ensures
