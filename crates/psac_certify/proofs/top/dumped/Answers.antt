use Rattle.std.proofs.Common.{rules, ◌≡◌, Some, None, codes, map, string_bytes}
use Rattle.psac_command.specs.Asked.{single_asked}
use Rattle.psac_command.specs.Views.{request_view}
use Rattle.psac_certify.specs.Answer.{IsDump}
use Rattle.psac_certify.proofs.Complete.{complete_dump}
use Rattle.psac_run.proofs.Finished.{usage_answer, wrote_first}
use Rattle.psac_certify.proofs.top.dumped.Goals as goal

pub returns-in-Ok-Some-clause-complete : goal.returns-in-Ok-Some-clause-complete
returns-in-Ok-Some-clause-complete g c =
    let words : single_asked (codes "dump") (map string_bytes c.args.words.now.items) ≡ Some
    (request_view c.in-Ok-Some.request) = search rules in
    rw words (complete_dump IsDump _ _ _ _ _ _ _ _ c.dump_named.ensures.status c.dump_named.ensures.answered
    c.dump_named.ensures.shelf c.dump_named.ensures.sink)

pub returns-in-Ok-None-clause-part : goal.returns-in-Ok-None-clause-part
returns-in-Ok-None-clause-part g c =
    let words = single_asked (codes "dump") (map string_bytes c.args.words.now.items) in
    let none : words ≡ None = search rules in
    let files = g.F.Shelf.files c.args.shelf.now in
    wrote_first IsDump c.finish.result.code 2 c.usage_line.result.now files words None _ _
    (usage_answer IsDump files words c.usage_line.result.now None none c.usage_line.ensures) c.finish.ensures.part
