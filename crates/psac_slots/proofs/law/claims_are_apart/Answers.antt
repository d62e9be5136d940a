use Rattle.psac_slots.proofs.Kept.{promised}
use Rattle.psac_slots.proofs.law.claims_are_apart.Goals as goal

pub returns : goal.returns
returns c = λ count words views h. promised count h.0 h.1 h.2 words views h.3
