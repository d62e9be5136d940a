use Rattle.psac_repair.proofs.Wiring.{blocks_wire}
use Rattle.psac_repair.proofs.links.blocks_wire_up.Goals as goal

pub returns : goal.returns
returns c = blocks_wire
