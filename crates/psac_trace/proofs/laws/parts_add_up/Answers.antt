use Rattle.psac_trace.proofs.Following.{sides_add}
use Rattle.psac_trace.proofs.Moving.{moves_then}
use Rattle.psac_trace.proofs.Rewriting.{rewrote_then}
use Rattle.psac_trace.proofs.laws.parts_add_up.Goals as goal

pub returns-clause-moves : goal.returns-clause-moves
returns-clause-moves c = moves_then

pub returns-clause-words : goal.returns-clause-words
returns-clause-words c = rewrote_then

pub returns-clause-sides : goal.returns-clause-sides
returns-clause-sides c = sides_add
