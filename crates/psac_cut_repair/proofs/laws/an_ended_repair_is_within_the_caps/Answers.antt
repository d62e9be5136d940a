use Rattle.psac_cut_repair.proofs.Modes.{ended_repair_fits}
use Rattle.psac_cut_repair.proofs.laws.an_ended_repair_is_within_the_caps.Goals as goal

pub returns : goal.returns
returns c = ended_repair_fits
