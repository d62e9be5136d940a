use Rattle.psac_repair.proofs.Fitted.{sets_fit}
use Rattle.psac_repair.proofs.fits.sets_stay_ready.Goals as goal

pub returns : goal.returns
returns c = sets_fit
