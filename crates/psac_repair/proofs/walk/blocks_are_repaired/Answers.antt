use Rattle.psac_repair.proofs.Called.{blocks_go}
use Rattle.psac_repair.proofs.walk.blocks_are_repaired.Goals as goal

pub returns : goal.returns
returns c = blocks_go
