use Rattle.psac_repair.proofs.Called.{asked_begins, asked_leaves, part_asked_leaves, looked_begins, looked_leaves, part_looked_leaves}
use Rattle.psac_repair.proofs.walk.asks_and_looks_change_nothing.Goals as goal

pub returns-clause-asked : goal.returns-clause-asked
returns-clause-asked c = asked_begins

pub returns-clause-asked_left : goal.returns-clause-asked_left
returns-clause-asked_left c = asked_leaves

pub returns-clause-asked_part : goal.returns-clause-asked_part
returns-clause-asked_part c = part_asked_leaves

pub returns-clause-looked : goal.returns-clause-looked
returns-clause-looked c = looked_begins

pub returns-clause-looked_left : goal.returns-clause-looked_left
returns-clause-looked_left c = looked_leaves

pub returns-clause-looked_part : goal.returns-clause-looked_part
returns-clause-looked_part c = part_looked_leaves
