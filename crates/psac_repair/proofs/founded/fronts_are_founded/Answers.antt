use Rattle.psac_repair.proofs.Founds.{made_founds, wrote_founds}
use Rattle.psac_repair.proofs.founded.fronts_are_founded.Goals as goal

pub returns-clause-made : goal.returns-clause-made
returns-clause-made c = made_founds

pub returns-clause-wrote : goal.returns-clause-wrote
returns-clause-wrote c = wrote_founds
