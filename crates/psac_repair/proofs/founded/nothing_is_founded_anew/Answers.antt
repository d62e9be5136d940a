use Rattle.psac_repair.proofs.Founds.{none_founded, fewer_founded}
use Rattle.psac_repair.proofs.founded.nothing_is_founded_anew.Goals as goal

pub returns-clause-none : goal.returns-clause-none
returns-clause-none c = none_founded

pub returns-clause-fewer : goal.returns-clause-fewer
returns-clause-fewer c = fewer_founded
