use Rattle.psac_repair.proofs.Fitted.{nodes_fit}
use Rattle.psac_repair.proofs.fits.nodes_stay_rooted.Goals as goal

pub returns : goal.returns
returns c = nodes_fit
