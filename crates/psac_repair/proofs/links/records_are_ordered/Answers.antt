use Rattle.psac_repair.proofs.Wiring.{records_ordered}
use Rattle.psac_repair.proofs.links.records_are_ordered.Goals as goal

pub returns : goal.returns
returns c = records_ordered
