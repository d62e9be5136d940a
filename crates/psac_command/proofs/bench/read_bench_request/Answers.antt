use Rattle.psac_command.proofs.Wanted.{bench_is, no_bench_is}
use Rattle.psac_command.proofs.bench.read_bench_request.Goals as goal

pub returns-in-Some-clause-asked : goal.returns-in-Some-clause-asked
returns-in-Some-clause-asked c =
    bench_is _ _ _ _ c.in-Some.is c.in_ok-texts.ensures.taken c.in_ok-texts.ensures.texts c.read_bench.ensures.value

pub returns-in-None-clause-asked : goal.returns-in-None-clause-asked
returns-in-None-clause-asked c = no_bench_is _ _ c.in-None.is c.in_ok-texts.ensures.taken
