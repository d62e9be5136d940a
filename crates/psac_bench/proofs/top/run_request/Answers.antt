use Rattle.std.proofs.Common.{rules, refl, Some}
use Rattle.psac_command.specs.Views.{bench_view}
use Rattle.psac_bench.specs.Answer.{IsAnswer, Refused}
use Rattle.psac_bench.proofs.Finished.{wrote, wrote_first, wrote_report, wrote_report_part}
use Rattle.psac_bench.proofs.top.run_request.Given.{Over}
use Rattle.psac_bench.proofs.top.run_request.Goals as goal

pub returns-in-Ok-accept-clause-answered : goal.returns-in-Ok-accept-clause-answered
returns-in-Ok-accept-clause-answered g c =
    wrote_report _ (g.F.Shelf.files c.args.shelf.now) (bench_view c.args.request.now) c.in-Ok-accept.checked c.in-Ok.bytes.items _ _ c.in-Ok.ensures.bytes
    (rw c.deref.ensures.value at c.in-Ok-accept.ensures.accepted) c.run_program.ensures.status c.run_program.ensures.whole

pub returns-in-Ok-accept-clause-part : goal.returns-in-Ok-accept-clause-part
returns-in-Ok-accept-clause-part g c = λ seven.
    wrote_report_part (g.F.Shelf.files c.args.shelf.now) (bench_view c.args.request.now) c.in-Ok-accept.checked c.in-Ok.bytes.items _ _ c.in-Ok.ensures.bytes
    (rw c.deref.ensures.value at c.in-Ok-accept.ensures.accepted) (c.run_program.ensures.part seven)

program_refused : (g : Over) (c : goal.After-drop-bytes-in-Err-Line g)
    → IsAnswer 4 c.in-Err-Line.line.items (g.F.Shelf.files c.args.shelf.now) (Some (bench_view c.args.request.now))
program_refused g c =
    record {
      program = c.in-Ok.bytes.items;
      answer = Refused (bench_view c.args.request.now) refl (rw (c.deref.ensures.value, c.in-Err-Line.field-0-is) at c.in-Err-Line.ensures.refused) refl;
      program_is = c.in-Ok.ensures.bytes;
    }

pub returns-in-Err-Line-clause-answered : goal.returns-in-Err-Line-clause-answered
returns-in-Err-Line-clause-answered g c =
    wrote _ 4 c.in-Err-Line.line.items c.deref-in-Err-Line.result.now _ _ _ _ (search rules) (program_refused g c) c.finish.ensures.status c.finish.ensures.whole

pub returns-in-Err-Line-clause-part : goal.returns-in-Err-Line-clause-part
returns-in-Err-Line-clause-part g c = λ seven.
    wrote_first 4 c.in-Err-Line.line.items c.deref-in-Err-Line.result.now _ _ _ _ (search rules) (program_refused g c) (c.finish.ensures.part seven)
