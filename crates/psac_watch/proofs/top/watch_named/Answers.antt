use Rattle.std.proofs.Common.{inr, Some}
use Rattle.psac_command.specs.Views.{request_view}
use Rattle.psac_model.specs.declared.ends.Caps.{Caps}
use Rattle.psac_model.specs.Fresh.{World}
use Rattle.psac_report.specs.Session.{State}
use Rattle.psac_session.specs.Answered.{AnsweredLong, AnsweredWhole}
use Rattle.psac_run.proofs.Reports.{served_zero}
use Rattle.psac_run.proofs.Finished.{has_text, refused_answer, wrote, wrote_some}
use Rattle.psac_watch.specs.Watched.{IsSeen, IsSeenWhole, IsWatch, answer_at, hearing_at}
use Rattle.psac_watch.proofs.Opening.{over, wrote_part, wrote_report}
use Rattle.psac_watch.proofs.top.watch_named.Goals as goal

pub returns-in-Ok-clause-answered : goal.returns-in-Ok-clause-answered
returns-in-Ok-clause-answered g c = λ has.
    let told = c.run_watch.ensures in
    let zero = served_zero c.run_watch.result.code told.status has in
    let all = told.whole zero in
    rw zero (wrote_report (g.F.Shelf.files c.args.shelf.now) (request_view c.args.request.now) c.in-Ok.opened
    (g.S.Source.left c.args.script.now) _ _ all.script c.in-Ok.ensures.opened all.is_script all.written)

pub returns-in-Ok-clause-part : goal.returns-in-Ok-clause-part
returns-in-Ok-clause-part g c = λ some.
    wrote_part (g.F.Shelf.files c.args.shelf.now) (request_view c.args.request.now) c.in-Ok.opened
    (g.S.Source.left c.args.script.now) _ _ c.in-Ok.ensures.opened c.run_watch.ensures.part

pub returns-in-Ok-clause-memory : goal.returns-in-Ok-clause-memory
returns-in-Ok-clause-memory g c = λ nine.
    inr (wrote_part (g.F.Shelf.files c.args.shelf.now) (request_view c.args.request.now) c.in-Ok.opened
    (g.S.Source.left c.args.script.now) _ _ c.in-Ok.ensures.opened c.run_watch.ensures.part)

pub returns-in-Ok-clause-broken : goal.returns-in-Ok-clause-broken
returns-in-Ok-clause-broken g c = λ six.
    over (g.F.Shelf.files c.args.shelf.now) (request_view c.args.request.now) c.in-Ok.opened
    (λ (w : World) (caps : Caps) (s : State). AnsweredWhole (answer_at w caps s) (g.S.Source.left c.args.script.now)
    (g.S.Source.left c.run_watch.new.script) (g.K.Sink.held c.args.out.now) (g.K.Sink.held c.run_watch.new.out))
    c.in-Ok.ensures.opened (c.run_watch.ensures.broken six)

pub returns-in-Ok-clause-much : goal.returns-in-Ok-clause-much
returns-in-Ok-clause-much g c = λ eight.
    over (g.F.Shelf.files c.args.shelf.now) (request_view c.args.request.now) c.in-Ok.opened
    (λ (w : World) (caps : Caps) (s : State). AnsweredLong (answer_at w caps s) (g.S.Source.left c.args.script.now)
    (g.S.Source.left c.run_watch.new.script) (g.K.Sink.held c.args.out.now) (g.K.Sink.held c.run_watch.new.out))
    c.in-Ok.ensures.opened (c.run_watch.ensures.much eight)

pub returns-in-Ok-clause-shown : goal.returns-in-Ok-clause-shown
returns-in-Ok-clause-shown g c =
    inr (over (g.F.Shelf.files c.args.shelf.now) (request_view c.args.request.now) c.in-Ok.opened
    (λ (w : World) (caps : Caps) (s : State). IsSeen (hearing_at w caps s) (g.S.Source.left c.args.script.now)
    (g.E.Eye.shown c.args.eye.now) (g.E.Eye.shown c.run_watch.new.eye))
    c.in-Ok.ensures.opened c.run_watch.ensures.shown)

pub returns-in-Ok-clause-last : goal.returns-in-Ok-clause-last
returns-in-Ok-clause-last g c = λ zero.
    over (g.F.Shelf.files c.args.shelf.now) (request_view c.args.request.now) c.in-Ok.opened
    (λ (w : World) (caps : Caps) (s : State). IsSeenWhole (answer_at w caps s) (hearing_at w caps s)
    (g.S.Source.left c.args.script.now) (g.K.Sink.held c.args.out.now) (g.K.Sink.held c.run_watch.new.out)
    (g.E.Eye.shown c.args.eye.now) (g.E.Eye.shown c.run_watch.new.eye))
    c.in-Ok.ensures.opened (c.run_watch.ensures.whole zero)

pub returns-in-Err-Refused-clause-answered : goal.returns-in-Err-Refused-clause-answered
returns-in-Err-Refused-clause-answered g c =
    let files = g.F.Shelf.files c.args.shelf.now in
    let a = request_view c.args.request.now in
    let told = g.S.Source.left c.args.script.now in
    let refused = (rw c.in-Err-Refused.field-0-is at c.in-Err-Refused.ensures.refused).1 in
    wrote IsWatch c.finish.result.code c.in-Err-Refused.code c.in-Err-Refused.line.items files (Some a) told _ _
    (refused_answer IsWatch files a c.in-Err-Refused.line.items c.in-Err-Refused.code told refused)
    (rw c.in-Err-Refused.field-0-is at c.finish.ensures.status)
    (rw (c.deref.ensures.value, c.in-Err-Refused.field-0-is) at c.finish.ensures.whole)

pub returns-in-Err-Refused-clause-part : goal.returns-in-Err-Refused-clause-part
returns-in-Err-Refused-clause-part g c =
    let files = g.F.Shelf.files c.args.shelf.now in
    let a = request_view c.args.request.now in
    let told = g.S.Source.left c.args.script.now in
    let both = rw c.in-Err-Refused.field-0-is at c.in-Err-Refused.ensures.refused in
    wrote_some IsWatch c.finish.result.code c.in-Err-Refused.code c.in-Err-Refused.line.items files (Some a) told _ _
    (refused_answer IsWatch files a c.in-Err-Refused.line.items c.in-Err-Refused.code told both.1)
    (has_text c.in-Err-Refused.code both.0)
    (rw c.in-Err-Refused.field-0-is at c.finish.ensures.status)
    (rw (c.deref.ensures.value, c.in-Err-Refused.field-0-is) at c.finish.ensures.part)
