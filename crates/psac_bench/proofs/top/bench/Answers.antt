use Rattle.std.proofs.Common.{rules, ◌≡◌, refl, Some, None, [], map, string_bytes}
use Rattle.psac_command.specs.Bench.{bench_asked}
use Rattle.psac_command.specs.Views.{bench_view}
use Rattle.psac_bench.specs.Answer.{IsAnswer, Usage}
use Rattle.psac_bench.proofs.Complete.{complete}
use Rattle.psac_bench.proofs.Finished.{wrote_first}
use Rattle.psac_bench.proofs.top.bench.Given.{Over}
use Rattle.psac_bench.proofs.top.bench.Goals as goal

usage : (g : Over) (c : goal.After-finish g) → IsAnswer 2 c.usage_line.result.now (g.F.Shelf.files c.args.shelf.now) (bench_asked (map string_bytes c.args.words.now.items))
usage g c =
    let none : bench_asked (map string_bytes c.args.words.now.items) ≡ None = search rules in
    rw none (record { program = []; answer = Usage refl refl c.usage_line.ensures; program_is = tt })

pub returns-in-Ok-None-clause-part : goal.returns-in-Ok-None-clause-part
returns-in-Ok-None-clause-part g c = λ seven. wrote_first 2 c.usage_line.result.now _ _ _ _ _ refl (usage g c) (c.finish.ensures.part seven)

pub returns-in-Ok-Some-clause-complete : goal.returns-in-Ok-Some-clause-complete
returns-in-Ok-Some-clause-complete g c =
    let words : bench_asked (map string_bytes c.args.words.now.items) ≡ Some (bench_view c.in-Ok-Some.request) = search rules in
    rw words (complete _ _ _ _ _ _ _ c.run_request.ensures.status c.run_request.ensures.answered c.run_request.ensures.shelf c.run_request.ensures.sink)
