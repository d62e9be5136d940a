use Rattle.std.proofs.lemmas.Result.{IfOk-weaker}
use Rattle.psac_command.specs.Views.{bench_view}
use Rattle.psac_bench.proofs.Opened.{is_report, rows_are}
use Rattle.psac_bench.proofs.run.report_text.Goals as goal

pub report-requires-clause-rows : goal.report-requires-clause-rows
report-requires-clause-rows g c κs within = rows_are _ _ _ _ _ c.in_ok-opened.ensures

pub returns : goal.returns
returns g c =
    IfOk-weaker c.report.result _ _
    (λ text is. is_report c.args.program (bench_view c.args.request.now) c.in_ok-opened.opened text.items c.in_ok-opened.ensures is) c.report.ensures
