use Rattle.psac_repair.proofs.Wakes.{nothing_woke, looks_wake, outside_woke}
use Rattle.psac_repair.proofs.watched.nothing_else_wakes.Goals as goal

pub returns-clause-none : goal.returns-clause-none
returns-clause-none c = nothing_woke

pub returns-clause-looks : goal.returns-clause-looks
returns-clause-looks c = looks_wake

pub returns-clause-outside : goal.returns-clause-outside
returns-clause-outside c = outside_woke
