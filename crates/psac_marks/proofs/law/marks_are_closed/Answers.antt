use Rattle.psac_marks.proofs.Kept.{promised}
use Rattle.psac_marks.proofs.law.marks_are_closed.Goals as goal

pub returns : goal.returns
returns c = λ nodes words views h. promised nodes words views h
