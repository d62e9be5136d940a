use Rattle.psac_cut_repair.proofs.Modes.{full_runs_anew}
use Rattle.psac_cut_repair.proofs.laws.a_full_repair_runs_anew.Goals as goal

pub returns : goal.returns
returns c = full_runs_anew
