use Rattle.psac_repair.proofs.Founds.{sides_found}
use Rattle.psac_repair.proofs.founded.sides_are_founded.Goals as goal

pub returns : goal.returns
returns c = sides_found
