use Rattle.psac_stage.proofs.Reclaiming.{parts_owed}
use Rattle.psac_stage.proofs.Named.{names_stand}
use Rattle.psac_stage.proofs.reclaim.dropped_parts_are_owed.Goals as goal

pub returns-clause-parts : goal.returns-clause-parts
returns-clause-parts c = parts_owed

pub returns-clause-names : goal.returns-clause-names
returns-clause-names c = names_stand
