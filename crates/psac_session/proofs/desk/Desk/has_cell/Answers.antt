use Rattle.std.proofs.Common.{◌∙◌, ap}
use Rattle.psac_inputs.specs.Grid.{Grid}
use Rattle.psac_engine.specs.Engine.{grid_in}
use Rattle.psac_session.proofs.Stepped.{has_below}
use Rattle.psac_session.proofs.desk.Desk.has_cell.Goals as goal

pub returns-then-row-staged_rows : goal.returns-then-row-staged_rows
returns-then-row-staged_rows c =
    has_below c.args.row c.args.col c.staged_rows.result c.cols.result c.args.self.now.batch (grid_in c.args.engine.now) c.staged_rows.ensures.value
    (c.cols.ensures.value ∙ ap (λ (g : Grid). g.cols) c.grid.ensures.value) c.if-row-staged_rows.true
