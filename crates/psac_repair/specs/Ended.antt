-- How a call ended, as the definitions see it.
use Rattle.std.specs.Prelude.{ℕ, Bool, true, false, Option, Some, None}
use Rattle.psac_ops.specs.declared.plain.Handle.{Handle}
use Rattle.psac_model.specs.declared.ends.FaultKind.{FaultKind}
use Rattle.psac_traced.specs.Rec.{Rec, P}
use Rattle.psac_trace.specs.Grown.{Cause}

-- with a record, at a fault, or for want of memory or of slots, with the table that is full where one is
pub data Ended : Type 0 where
  Good : (r : Rec Handle) → Ended
  Fault : (kind : FaultKind) (line : ℕ) → Ended
  Other : (why : Option Cause) → Ended

abbrev pub is_other : Ended → Bool
is_other (Other why) = true
is_other _ = false

-- want of memory goes before a full table, and the first one's before the second one's
abbrev pub first_why : Option Cause → Ended → Option Cause
first_why None e = None
first_why (Some c) (Other None) = None
first_why (Some c) e = Some c

-- both sides of a par: want of memory and of slots goes first, and then the left side's fault
abbrev pub both_ended : Ended → Ended → Ended
both_ended (Good l) (Good r) = Good (P l r)
both_ended (Good l) (Fault k n) = Fault k n
both_ended (Good l) (Other why) = Other why
both_ended (Fault k n) (Good r) = Fault k n
both_ended (Fault k n) (Fault j m) = Fault k n
both_ended (Fault k n) (Other why) = Other why
both_ended (Other why) e = Other (first_why why e)

-- a par whose left side isn't done, and whose right side wasn't tried
abbrev pub untried_ended : Ended → Ended
untried_ended (Other why) = Other why
untried_ended e = Other None

abbrev pub then_ended : (Rec Handle → Rec Handle) → Ended → Ended
then_ended f (Good r) = Good (f r)
then_ended f e = e
