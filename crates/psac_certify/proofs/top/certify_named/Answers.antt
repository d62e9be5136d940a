use Rattle.std.proofs.Common.{Some}
use Rattle.psac_command.specs.Views.{request_view}
use Rattle.psac_run.proofs.Reports.{served_zero}
use Rattle.psac_certify.specs.Answer.{IsVerdict}
use Rattle.psac_run.proofs.Finished.{refused_answer, wrote, wrote_first}
use Rattle.psac_certify.proofs.Gives.{wrote_given, wrote_some}
use Rattle.psac_certify.proofs.top.certify_named.Goals as goal

pub returns-in-Ok-clause-answered : goal.returns-in-Ok-clause-answered
returns-in-Ok-clause-answered g c = λ has.
    let zero = served_zero c.run_certify.result.code c.run_certify.ensures.status has in
    rw zero (wrote_given IsVerdict (g.F.Shelf.files c.args.shelf.now) (request_view c.args.request.now) c.in-Ok.opened
    (g.S.Source.left c.args.script.now) _ _
    c.in-Ok.ensures.opened (c.run_certify.ensures.whole zero))

pub returns-in-Ok-clause-part : goal.returns-in-Ok-clause-part
returns-in-Ok-clause-part g c = λ seven.
    wrote_some IsVerdict (g.F.Shelf.files c.args.shelf.now) (request_view c.args.request.now) c.in-Ok.opened
    (g.S.Source.left c.args.script.now) _ _
    c.in-Ok.ensures.opened (c.run_certify.ensures.part seven)

pub returns-in-Err-Refused-clause-answered : goal.returns-in-Err-Refused-clause-answered
returns-in-Err-Refused-clause-answered g c =
    let files = g.F.Shelf.files c.args.shelf.now in
    let a = request_view c.args.request.now in
    let told = g.S.Source.left c.args.script.now in
    let refused = (rw c.in-Err-Refused.field-0-is at c.in-Err-Refused.ensures.refused).1 in
    wrote IsVerdict c.finish.result.code c.in-Err-Refused.code c.in-Err-Refused.line.items files (Some a) told _ _
    (refused_answer IsVerdict files a c.in-Err-Refused.line.items c.in-Err-Refused.code told refused)
    (rw c.in-Err-Refused.field-0-is at c.finish.ensures.status)
    (rw (c.deref.ensures.value, c.in-Err-Refused.field-0-is) at c.finish.ensures.whole)

pub returns-in-Err-Refused-clause-part : goal.returns-in-Err-Refused-clause-part
returns-in-Err-Refused-clause-part g c =
    let files = g.F.Shelf.files c.args.shelf.now in
    let a = request_view c.args.request.now in
    let told = g.S.Source.left c.args.script.now in
    let refused = (rw c.in-Err-Refused.field-0-is at c.in-Err-Refused.ensures.refused).1 in
    wrote_first IsVerdict c.finish.result.code c.in-Err-Refused.code c.in-Err-Refused.line.items files (Some a) told _ _
    (refused_answer IsVerdict files a c.in-Err-Refused.line.items c.in-Err-Refused.code told refused)
    (rw (c.deref.ensures.value, c.in-Err-Refused.field-0-is) at c.finish.ensures.part)
