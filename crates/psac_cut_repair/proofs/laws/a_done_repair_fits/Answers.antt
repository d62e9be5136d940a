use Rattle.psac_cut_repair.proofs.Modes.{done_repair_fits}
use Rattle.psac_cut_repair.proofs.laws.a_done_repair_fits.Goals as goal

pub returns : goal.returns
returns c = done_repair_fits
