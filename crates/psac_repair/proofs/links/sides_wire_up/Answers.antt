use Rattle.psac_repair.proofs.Wiring.{sides_wire}
use Rattle.psac_repair.proofs.links.sides_wire_up.Goals as goal

pub returns : goal.returns
returns c = sides_wire
