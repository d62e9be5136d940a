use Rattle.std.proofs.Common.{rules, ◌≡◌, Some, None, codes, map, string_bytes}
use Rattle.psac_command.specs.Asked.{single_asked}
use Rattle.psac_command.specs.Views.{request_view}
use Rattle.psac_certify.specs.Answer.{IsVerdict}
use Rattle.psac_run.proofs.Complete.{complete}
use Rattle.psac_run.proofs.Finished.{usage_answer, wrote, wrote_first}
use Rattle.psac_certify.proofs.top.certified.Goals as goal

pub returns-in-Ok-Some-clause-complete : goal.returns-in-Ok-Some-clause-complete
returns-in-Ok-Some-clause-complete g c =
    let words : single_asked (codes "certify") (map string_bytes c.args.words.now.items) ≡ Some
    (request_view c.in-Ok-Some.request) = search rules in
    rw words (complete IsVerdict _ _ _ _ _ _ _ _ _ c.certify_named.ensures.status c.certify_named.ensures.answered
    c.certify_named.ensures.shelf
    c.certify_named.ensures.source c.certify_named.ensures.sink)

pub returns-in-Ok-None-clause-answered : goal.returns-in-Ok-None-clause-answered
returns-in-Ok-None-clause-answered g c =
    let words = single_asked (codes "certify") (map string_bytes c.args.words.now.items) in
    let none : words ≡ None = search rules in
    let files = g.F.Shelf.files c.args.shelf.now in
    wrote IsVerdict c.finish.result.code 2 c.usage_line.result.now files words (g.S.Source.left c.args.script.now) _ _
    (usage_answer IsVerdict files words c.usage_line.result.now (g.S.Source.left c.args.script.now) none
    c.usage_line.ensures)
    c.finish.ensures.status c.finish.ensures.whole

pub returns-in-Ok-None-clause-part : goal.returns-in-Ok-None-clause-part
returns-in-Ok-None-clause-part g c =
    let words = single_asked (codes "certify") (map string_bytes c.args.words.now.items) in
    let none : words ≡ None = search rules in
    let files = g.F.Shelf.files c.args.shelf.now in
    wrote_first IsVerdict c.finish.result.code 2 c.usage_line.result.now files words (g.S.Source.left c.args.script.now)
    _ _
    (usage_answer IsVerdict files words c.usage_line.result.now (g.S.Source.left c.args.script.now) none
    c.usage_line.ensures) c.finish.ensures.part
