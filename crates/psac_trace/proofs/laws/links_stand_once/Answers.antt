use Rattle.psac_trace.proofs.Following.{links_once}
use Rattle.psac_trace.proofs.laws.links_stand_once.Goals as goal

pub returns : goal.returns
returns c = links_once
