use Rattle.psac_series.proofs.Plain.{fresh_plain}
use Rattle.psac_series.proofs.laws.plain_way_is_the_run.Goals as goal

pub returns : goal.returns
returns c w g = fresh_plain w g
