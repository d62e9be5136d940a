use Rattle.psac_readers.proofs.Kept.{promised}
use Rattle.psac_readers.proofs.law.sets_are_whole.Goals as goal

pub returns : goal.returns
returns c = λ links mods words views h. promised links mods words views h
