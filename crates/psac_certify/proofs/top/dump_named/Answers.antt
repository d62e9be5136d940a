use Rattle.std.proofs.Common.{inl, inr, Some, None}
use Rattle.psac_command.specs.Views.{request_view}
use Rattle.psac_certify.specs.Answer.{IsDump}
use Rattle.psac_run.proofs.Finished.{refused_answer, wrote, wrote_first}
use Rattle.psac_certify.proofs.Gives.{dump_given, dump_some, wrote_given, wrote_some, zero_with_text}
use Rattle.psac_certify.proofs.top.dump_named.Goals as goal

pub returns-in-Ok-clause-answered : goal.returns-in-Ok-clause-answered
returns-in-Ok-clause-answered g c = λ has.
    let zero = zero_with_text c.run_dump.result.code c.run_dump.ensures.status has in
    rw zero (wrote_given IsDump (g.F.Shelf.files c.args.shelf.now) (request_view c.args.request.now) c.in-Ok.opened None
    _ _ c.in-Ok.ensures.opened
    (dump_given c.in-Ok.opened _ _ (c.run_dump.ensures.whole zero)))

pub returns-in-Ok-clause-part : goal.returns-in-Ok-clause-part
returns-in-Ok-clause-part g c = λ seven.
    wrote_some IsDump (g.F.Shelf.files c.args.shelf.now) (request_view c.args.request.now) c.in-Ok.opened None _ _
    c.in-Ok.ensures.opened
    (dump_some c.in-Ok.opened _ _ (c.run_dump.ensures.part (inl seven)))

pub returns-in-Ok-clause-memory : goal.returns-in-Ok-clause-memory
returns-in-Ok-clause-memory g c = λ nine.
    inr (wrote_some IsDump (g.F.Shelf.files c.args.shelf.now) (request_view c.args.request.now) c.in-Ok.opened None _ _
    c.in-Ok.ensures.opened
    (dump_some c.in-Ok.opened _ _ (c.run_dump.ensures.part (inr nine))))

pub returns-in-Err-Refused-clause-answered : goal.returns-in-Err-Refused-clause-answered
returns-in-Err-Refused-clause-answered g c =
    let files = g.F.Shelf.files c.args.shelf.now in
    let a = request_view c.args.request.now in
    let refused = (rw c.in-Err-Refused.field-0-is at c.in-Err-Refused.ensures.refused).1 in
    wrote IsDump c.finish.result.code c.in-Err-Refused.code c.in-Err-Refused.line.items files (Some a) None _ _
    (refused_answer IsDump files a c.in-Err-Refused.line.items c.in-Err-Refused.code None refused)
    (rw c.in-Err-Refused.field-0-is at c.finish.ensures.status)
    (rw (c.deref.ensures.value, c.in-Err-Refused.field-0-is) at c.finish.ensures.whole)

pub returns-in-Err-Refused-clause-part : goal.returns-in-Err-Refused-clause-part
returns-in-Err-Refused-clause-part g c =
    let files = g.F.Shelf.files c.args.shelf.now in
    let a = request_view c.args.request.now in
    let refused = (rw c.in-Err-Refused.field-0-is at c.in-Err-Refused.ensures.refused).1 in
    wrote_first IsDump c.finish.result.code c.in-Err-Refused.code c.in-Err-Refused.line.items files (Some a) None _ _
    (refused_answer IsDump files a c.in-Err-Refused.line.items c.in-Err-Refused.code None refused)
    (rw (c.deref.ensures.value, c.in-Err-Refused.field-0-is) at c.finish.ensures.part)
