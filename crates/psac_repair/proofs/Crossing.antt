-- What a repair answers may cross threads.
use denote.Param.Send.{IsSend, sendable, struct_send, recorded_send}
use denote.Struct.Declared.{shape}
use Rattle.std.proofs.Crossing.{Box-send}
use Rattle.std.proofs.result.Result.TheSendSync as result
use Rattle.psac_record.proofs.record.Made.TheSendSync as made
use Rattle.psac_record.proofs.record.Wrote.TheSendSync as wrote
use Rattle.psac_record.proofs.record.Step.TheSendSync as step
use Rattle.psac_record.proofs.record.Both.TheSendSync as both
use Rattle.psac_record.proofs.record.Block.TheSendSync as block
use Rattle.psac_record.proofs.record.Record.TheLaws.TheKnot as knot
use Rattle.psac_record.specs.contracts.record.Record as Record
use Rattle.psac_record.specs.contracts.dropped.Dropped as Dropped
use Rattle.psac_repair.proofs.outcome.Stop.TheSendSync as stop
use Rattle.psac_repair.proofs.tally.Tally.TheSendSync as tally
use Rattle.psac_repair.specs.contracts.outcome.Outcome as Outcome

pub record_send : IsSend Record.the_field.row
record_send =
    knot.send-Record
    (λ h s. Box-send _ (made.the_send h s))
    (λ h s. Box-send _ (wrote.the_send h s))
    (λ h s. Box-send _ (step.the_send h s))
    (λ h s. Box-send _ (both.the_send h s))
    (λ h s. Box-send _ (block.the_send h s))

pub dropped_send : IsSend Dropped.the_field.row
dropped_send = struct_send (shape Dropped.the_type) (record_send, (record_send, (search sendable, tt)))

pub outcome_send : IsSend Outcome.the_row
outcome_send =
    recorded_send Outcome.the_field.row _ _ Outcome.the_type.to_one
    (struct_send (shape Outcome.the_type) (record_send, (dropped_send, (search (sendable, result.the_field_send, stop.the_send, tally.the_send), tt))))
