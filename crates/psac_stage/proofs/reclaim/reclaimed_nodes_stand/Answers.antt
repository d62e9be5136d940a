use Rattle.psac_stage.proofs.Regained.{nodes_again, places_recorded}
use Rattle.psac_stage.proofs.reclaim.reclaimed_nodes_stand.Goals as goal

pub returns-clause-nodes : goal.returns-clause-nodes
returns-clause-nodes c = nodes_again

pub returns-clause-recorded : goal.returns-clause-recorded
returns-clause-recorded c = places_recorded
