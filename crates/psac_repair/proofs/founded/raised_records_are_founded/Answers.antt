use Rattle.psac_repair.proofs.Founds.{roots_found}
use Rattle.psac_repair.proofs.founded.raised_records_are_founded.Goals as goal

pub returns : goal.returns
returns c = roots_found
