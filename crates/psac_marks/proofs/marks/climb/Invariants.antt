use Rattle.psac_marks.proofs.Terms.{◌≡◌, places}
use Rattle.psac_marks.proofs.Climbing.{Midway, unmarked}
use Rattle.psac_marks.proofs.marks.climb.Given as goal

abbrev pub invariant-loop-above : goal.invariant-loop-above
invariant-loop-above l = (l.seat.table_id ≡ l.initial.seat.table_id) × (l.seat.me.1 ≡ l.initial.seat.me.1) × Midway l.initial.seat.me.0 l.initial.slot l.seat.me.0 l.slot

abbrev pub decreases-loop-above : goal.decreases-loop-above
decreases-loop-above l = unmarked l.seat.me.0.marked (places l.seat.me.0)
