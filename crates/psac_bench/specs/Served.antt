-- What is reported of a bench over an engine.
use Rattle.std.specs.Prelude.{ℕ, List}
use Rattle.psac_inputs.specs.Texts.{Texts}
use Rattle.psac_report.specs.Report.{bench_report}
use Rattle.psac_command.specs.declared.bench.Counts.{Counts}
use Rattle.psac_engine.specs.declared.engine.Engine.{Engine}
use Rattle.psac_engine.specs.Engine.{caps_in, grid_in, world_in}

-- the report over what an engine holds
abbrev pub report_in : Engine → Texts → Counts → List ℕ
report_in e texts counts = bench_report (world_in e) (caps_in e) (grid_in e) texts counts.cells counts.batches
