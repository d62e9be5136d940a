use Rattle.psac_reclaim.proofs.Owing.{values_stand, nodes_stand, nodes_stay, values_age, nodes_age}
use Rattle.psac_reclaim.proofs.laws.reclaimed_records_stand.Goals as goal

pub returns-clause-values : goal.returns-clause-values
returns-clause-values c = values_stand

pub returns-clause-nodes : goal.returns-clause-nodes
returns-clause-nodes c = nodes_stand

pub returns-clause-own : goal.returns-clause-own
returns-clause-own c = nodes_stay

pub returns-clause-values_age : goal.returns-clause-values_age
returns-clause-values_age c = values_age

pub returns-clause-nodes_age : goal.returns-clause-nodes_age
returns-clause-nodes_age c = nodes_age
