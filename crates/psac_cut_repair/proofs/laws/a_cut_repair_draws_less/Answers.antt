use Rattle.psac_cut_repair.proofs.Modes.{cut_draws_less}
use Rattle.psac_cut_repair.proofs.laws.a_cut_repair_draws_less.Goals as goal

pub returns : goal.returns
returns c = cut_draws_less
