-- The report over an engine that was just opened is that of the program and of the cells that are made.
use Rattle.std.proofs.Common.{◌≡◌, ◌∙◌, ℕ, List, refl, ap}
use Rattle.psac_syntax.specs.declared.program.Program.{Program}
use Rattle.psac_inputs.specs.Grid.{Grid}
use Rattle.psac_inputs.specs.Texts.{Texts}
use Rattle.psac_model.specs.declared.ends.Caps.{Caps}
use Rattle.psac_model.specs.Fresh.{World}
use Rattle.psac_report.specs.Report.{bench_report}
use Rattle.psac_command.specs.Bench.{BenchAsked}
use Rattle.psac_engine.specs.Engine.{grid_in}
use Rattle.psac_open.specs.declared.opening.Opened.{Opened}
use Rattle.psac_bench.specs.Answer.{IsReport}
use Rattle.psac_bench.specs.Made.{HoldsMade}
use Rattle.psac_bench.specs.Served.{report_in}
use Rattle.psac_bench.proofs.Cells.{made_rows}

pub rows_are : (p : Program) (cells rows : ℕ) (caps : Caps) (o : Opened) → HoldsMade p cells rows caps o → (grid_in o.engine).rows ≡ cells
rows_are p cells rows caps o holds =
    ap (λ (g : Grid). g.rows) holds.engine.grid ∙ ap (λ (g : Grid). g.rows) holds.opens.grid ∙ made_rows cells _ refl

same_report : (w1 w : World) (c1 c : Caps) (g1 g : Grid) (texts : Texts) (cells batches : ℕ) → w1 ≡ w → c1 ≡ c → g1 ≡ g
    → bench_report w1 c1 g1 texts cells batches ≡ bench_report w c g texts cells batches
same_report w1 w c1 c g1 g texts cells batches of_world of_caps of_grid = rw (of_world, of_caps, of_grid) refl

pub is_report : (p : Program) (a : BenchAsked) (o : Opened) (text : List ℕ) → HoldsMade p a.counts.cells a.settings.rows a.settings.caps o
    → text ≡ report_in o.engine o.texts a.counts → IsReport p a text
is_report p a o text holds is =
    record {
      world = holds.world;
      grid = holds.grid;
      texts = o.texts;
      opens = holds.opens;
      is_text = is ∙ same_report _ holds.world _ a.settings.caps _ holds.grid o.texts a.counts.cells a.counts.batches holds.engine_world holds.engine.caps holds.engine.grid;
    }
