use Rattle.psac_repair.proofs.Adding.{along}
use Rattle.psac_repair.proofs.laws.series_goes_along.Goals as goal

pub returns : goal.returns
returns c = along
