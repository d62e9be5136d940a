use Rattle.std.proofs.Common.{inl, inr, refl, Some}
use Rattle.psac_command.specs.Views.{request_view}
use Rattle.psac_session.specs.Answered.{Answer, AnsweredLong, AnsweredWhole}
use Rattle.psac_run.specs.Answer.{IsReport}
use Rattle.psac_run.proofs.Finished.{has_text, refused_answer, wrote, wrote_some}
use Rattle.psac_run.proofs.Reports.{held, served_zero, wrote_part, wrote_report}
use Rattle.psac_run.proofs.Sessions.{long_same, whole_same}
use Rattle.psac_run.proofs.top.run_request.Goals as goal

pub returns-in-Ok-clause-answered : goal.returns-in-Ok-clause-answered
returns-in-Ok-clause-answered g c = λ has.
    let zero = served_zero c.serve.result.code c.serve.ensures.status has in
    rw zero (wrote_report (g.F.Shelf.files c.args.shelf.now) (request_view c.args.request.now) c.in-Ok.opened
    (g.S.Source.left c.args.script.now) _ _ c.in-Ok.ensures.opened (c.serve.ensures.whole zero))

pub returns-in-Ok-clause-part : goal.returns-in-Ok-clause-part
returns-in-Ok-clause-part g c = λ has.
    wrote_part (g.F.Shelf.files c.args.shelf.now) (request_view c.args.request.now) c.in-Ok.opened
    (g.S.Source.left c.args.script.now) _ _ c.in-Ok.ensures.opened c.serve.ensures.part

pub returns-in-Ok-clause-memory : goal.returns-in-Ok-clause-memory
returns-in-Ok-clause-memory g c = λ nine.
    inr (wrote_part (g.F.Shelf.files c.args.shelf.now) (request_view c.args.request.now) c.in-Ok.opened
    (g.S.Source.left c.args.script.now) _ _ c.in-Ok.ensures.opened c.serve.ensures.part)

pub returns-in-Ok-clause-broken : goal.returns-in-Ok-clause-broken
returns-in-Ok-clause-broken g c = λ six.
    held (g.F.Shelf.files c.args.shelf.now) (request_view c.args.request.now) c.in-Ok.opened c.serve.result.code 6
    (λ (answer : Answer). AnsweredWhole answer (g.S.Source.left c.args.script.now) (g.S.Source.left c.serve.new.script)
    (g.K.Sink.held c.args.out.now) (g.K.Sink.held c.serve.new.out))
    c.in-Ok.ensures.opened six (inl refl) c.serve.ensures.single
    (λ f h same. whole_same f h _ _ _ _ same) (c.serve.ensures.broken six)

pub returns-in-Ok-clause-much : goal.returns-in-Ok-clause-much
returns-in-Ok-clause-much g c = λ eight.
    held (g.F.Shelf.files c.args.shelf.now) (request_view c.args.request.now) c.in-Ok.opened c.serve.result.code 8
    (λ (answer : Answer). AnsweredLong answer (g.S.Source.left c.args.script.now) (g.S.Source.left c.serve.new.script)
    (g.K.Sink.held c.args.out.now) (g.K.Sink.held c.serve.new.out))
    c.in-Ok.ensures.opened eight (inr refl) c.serve.ensures.single
    (λ f h same. long_same f h _ _ _ _ same) (c.serve.ensures.much eight)

pub returns-in-Err-Refused-clause-answered : goal.returns-in-Err-Refused-clause-answered
returns-in-Err-Refused-clause-answered g c =
    let files = g.F.Shelf.files c.args.shelf.now in
    let a = request_view c.args.request.now in
    let told = g.S.Source.left c.args.script.now in
    let refused = (rw c.in-Err-Refused.field-0-is at c.in-Err-Refused.ensures.refused).1 in
    wrote (IsReport (Some a)) c.finish.result.code c.in-Err-Refused.code c.in-Err-Refused.line.items files (Some a) told _ _
    (refused_answer (IsReport (Some a)) files a c.in-Err-Refused.line.items c.in-Err-Refused.code told refused)
    (rw c.in-Err-Refused.field-0-is at c.finish.ensures.status)
    (rw (c.deref.ensures.value, c.in-Err-Refused.field-0-is) at c.finish.ensures.whole)

pub returns-in-Err-Refused-clause-part : goal.returns-in-Err-Refused-clause-part
returns-in-Err-Refused-clause-part g c =
    let files = g.F.Shelf.files c.args.shelf.now in
    let a = request_view c.args.request.now in
    let told = g.S.Source.left c.args.script.now in
    let both = rw c.in-Err-Refused.field-0-is at c.in-Err-Refused.ensures.refused in
    wrote_some (IsReport (Some a)) c.finish.result.code c.in-Err-Refused.code c.in-Err-Refused.line.items files (Some a) told _ _
    (refused_answer (IsReport (Some a)) files a c.in-Err-Refused.line.items c.in-Err-Refused.code told both.1)
    (has_text c.in-Err-Refused.code both.0)
    (rw c.in-Err-Refused.field-0-is at c.finish.ensures.status)
    (rw (c.deref.ensures.value, c.in-Err-Refused.field-0-is) at c.finish.ensures.part)
