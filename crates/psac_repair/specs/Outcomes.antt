-- How a call of the walk ended, told of the record that it hands back, and its numbers.
use Rattle.std.specs.Prelude.{◌≡◌, Bool, true, false, ◌-◌, Result, Ok, Err, Some, None, IfOk}
use Rattle.psac_ops.specs.declared.plain.Handle.{Handle}
use Rattle.psac_ops.specs.Named.{same_handle}
use Rattle.psac_model.specs.Fresh.{levels}
use Rattle.psac_traced.specs.Rec as rec
use Rattle.psac_traced.specs.Rec.{Rec}
use Rattle.psac_traced.specs.Mending.{mended}
use Rattle.psac_record.specs.declared.parts.Reading.{Reading}
use Rattle.psac_record.specs.Kept.{Kept, P, R, bare, env_of, reads_of}
use Rattle.psac_record.specs.Dropped.{dropped_of}
use Rattle.psac_record.specs.Shown.{kept_of, rec_of}
use Rattle.psac_trace.specs.declared.halt.Halt.{Halt}
use Rattle.psac_trace.specs.declared.halt.Halt.TheVariants as halt
use Rattle.psac_repair.specs.Ended.{Ended, Good, Fault, Other, first_why}
use Rattle.psac_repair.specs.Taking.{taken}
use Rattle.psac_repair.specs.Tallied.{tally_of}
use Rattle.psac_repair.specs.declared.outcome.Stop.{Stop}
use Rattle.psac_repair.specs.declared.outcome.Stop.TheVariants as stop
use Rattle.psac_repair.specs.declared.outcome.Outcome.{Outcome}

abbrev pub halted : Halt → Ended
halted (halt.Fault why line) = Fault why line
halted (halt.Full which at) = Other (Some (record { which = which; index = at.index; room = at.room }))
halted halt.NoMemory = Other None

abbrev pub stopped : Stop → Ended
stopped (stop.Halt h) = halted h
stopped stop.Unsettled = Other None

-- the record that is left, or why there is none
abbrev pub ended_by : {A : Type 0} → Result A Stop → Rec Handle → Ended
ended_by (Ok a) r = Good r
ended_by (Err h) r = stopped h

abbrev pub end_of : Outcome → Ended
end_of o = ended_by o.told (rec_of o.tree)

abbrev pub is_good : Ended → Bool
is_good (Good r) = true
is_good e = false

-- where there is a record
abbrev pub OnGood : Ended → Type 0 → Type 0
OnGood (Good r) T = T
OnGood (Fault why line) T = Unit {0}
OnGood (Other why) T = Unit {0}

-- two parts: want of memory and of slots goes first, and then the first one's fault
abbrev pub pair_ended : (Rec Handle → Rec Handle → Rec Handle) → Ended → Ended → Ended
pair_ended f (Good a) (Good b) = Good (f a b)
pair_ended f (Good a) (Fault k n) = Fault k n
pair_ended f (Fault k n) (Good b) = Fault k n
pair_ended f (Fault k n) (Fault j m) = Fault k n
pair_ended f (Good a) (Other why) = Other why
pair_ended f (Fault k n) (Other why) = Other why
pair_ended f (Other why) e = Other (first_why why e)

-- a record of a body, and not of both sides of a par or of a read block
abbrev pub is_body : Kept → Bool
is_body (P n l r) = false
is_body (R b t) = false
is_body k = true

-- the record of a read block with this body
abbrev pub block_round : Reading → Rec Handle → Rec Handle
block_round b t = rec.R (levels - b.level) b.block (env_of b.env) (reads_of b.reads) t

-- the numbers are those of what was done, and what was taken off is handed back
abbrev pub Counts : Kept → Outcome → Type 0
Counts k o = IfOk o.told (λ t. (t ≡ tally_of (mended same_handle (bare k) (rec_of o.tree))) × (dropped_of o.dropped ≡ taken k (kept_of o.tree)))
