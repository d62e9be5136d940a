use Rattle.psac_repair.proofs.Wiring.{kept_wires, links_stay, made_wires, wrote_wires}
use Rattle.psac_repair.proofs.links.kept_links_stay.Goals as goal

pub returns-clause-kept : goal.returns-clause-kept
returns-clause-kept c = kept_wires

pub returns-clause-made : goal.returns-clause-made
returns-clause-made c = made_wires

pub returns-clause-wrote : goal.returns-clause-wrote
returns-clause-wrote c = wrote_wires

pub returns-clause-stay : goal.returns-clause-stay
returns-clause-stay c = links_stay
