use Rattle.psac_repair.proofs.Adding.{block_known, block_adds, changed_adds}
use Rattle.psac_repair.proofs.laws.read_nodes_add_up.Goals as goal

pub returns-clause-known : goal.returns-clause-known
returns-clause-known c = block_known

pub returns-clause-same : goal.returns-clause-same
returns-clause-same c = block_adds

pub returns-clause-changed : goal.returns-clause-changed
returns-clause-changed c = changed_adds
