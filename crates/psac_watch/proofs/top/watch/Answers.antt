use Rattle.std.proofs.Common.{rules, ◌≡◌, inl, inr, refl, Some, None, map, string_bytes}
use Rattle.psac_command.specs.Asked.{watch_asked}
use Rattle.psac_command.specs.Views.{request_view}
use Rattle.psac_run.proofs.Complete.{complete}
use Rattle.psac_run.proofs.Finished.{usage_answer, wrote, wrote_some}
use Rattle.psac_watch.specs.Watched.{IsWatch}
use Rattle.psac_watch.proofs.top.watch.Goals as goal

pub returns-in-Ok-Some-clause-complete : goal.returns-in-Ok-Some-clause-complete
returns-in-Ok-Some-clause-complete g c =
    let words : watch_asked (map string_bytes c.args.words.now.items) ≡ Some (request_view c.in-Ok-Some.request) = search rules in
    rw words (complete IsWatch _ _ _ _ _ _ _ _ _ c.watch_named-status.ensures.status c.watch_named-status.ensures.answered
    c.watch_named-status.ensures.shelf c.watch_named-status.ensures.source c.watch_named-status.ensures.sink)

pub returns-in-Ok-None-clause-answered : goal.returns-in-Ok-None-clause-answered
returns-in-Ok-None-clause-answered g c =
    let words = watch_asked (map string_bytes c.args.words.now.items) in
    let none : words ≡ None = search rules in
    let files = g.F.Shelf.files c.args.shelf.now in
    let told = g.S.Source.left c.args.script.now in
    wrote IsWatch c.finish.result.code 2 c.usage_line.result.now files words told _ _
    (usage_answer IsWatch files words c.usage_line.result.now told none c.usage_line.ensures)
    c.finish.ensures.status c.finish.ensures.whole

pub returns-in-Ok-None-clause-part : goal.returns-in-Ok-None-clause-part
returns-in-Ok-None-clause-part g c =
    let words = watch_asked (map string_bytes c.args.words.now.items) in
    let none : words ≡ None = search rules in
    let files = g.F.Shelf.files c.args.shelf.now in
    let told = g.S.Source.left c.args.script.now in
    wrote_some IsWatch c.finish.result.code 2 c.usage_line.result.now files words told _ _
    (usage_answer IsWatch files words c.usage_line.result.now told none c.usage_line.ensures)
    (inr (inl refl)) c.finish.ensures.status c.finish.ensures.part
