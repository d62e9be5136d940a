use Rattle.psac_repair.proofs.Founds.{blocks_found}
use Rattle.psac_repair.proofs.founded.blocks_are_founded.Goals as goal

pub returns : goal.returns
returns c = blocks_found
