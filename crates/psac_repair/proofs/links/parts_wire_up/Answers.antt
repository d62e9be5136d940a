use Rattle.psac_repair.proofs.Wiring.{steps_wire, turns_wire}
use Rattle.psac_repair.proofs.links.parts_wire_up.Goals as goal

pub returns-clause-steps : goal.returns-clause-steps
returns-clause-steps c = steps_wire

pub returns-clause-turns : goal.returns-clause-turns
returns-clause-turns c = turns_wire
