use Rattle.psac_reclaim.proofs.Owing.{values_owed, links_owed, nodes_owed}
use Rattle.psac_reclaim.proofs.laws.dropped_parts_are_owed.Goals as goal

pub returns-clause-values : goal.returns-clause-values
returns-clause-values c = values_owed

pub returns-clause-links : goal.returns-clause-links
returns-clause-links c = links_owed

pub returns-clause-nodes : goal.returns-clause-nodes
returns-clause-nodes c = nodes_owed
