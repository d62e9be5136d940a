use Rattle.psac_open.proofs.Lines.{breached_means}
use Rattle.psac_open.proofs.program.breached.Goals as goal

pub returns-in_default : goal.returns-in_default
returns-in_default c = breached_means c.args.fault c.check_line.result c.refused.result c.in_default.not-NoMemory c.check_line.ensures c.refused.ensures
