use Rattle.std.proofs.Common.{◌∙◌, ap, refl, subst}
use Rattle.psac_inputs.specs.Grid.{Grid, IsGrid}
use Rattle.psac_engine.specs.Engine.{grid_in}
use Rattle.psac_session.specs.Handles.{state_in}
use Rattle.psac_session.proofs.Stepped.{rows_refused, rows_staged}
use Rattle.psac_session.proofs.desk.Desk.rows.Goals as goal

pub returns-then-count-room-clause-step : goal.returns-then-count-room-clause-step
returns-then-count-room-clause-step c = λ texts.
    rows_refused c.args.count c.room.result c.args.self.now.batch (grid_in c.args.engine.now) (state_in c.args.engine.now c.args.self.now texts)
    (c.room.ensures.value ∙ ap (λ (g : Grid). g.room) c.grid.ensures.value) c.if-count-room.true refl

pub returns-in-Ok-clause-step : goal.returns-in-Ok-clause-step
returns-in-Ok-clause-step c = λ texts.
    let g = grid_in c.args.engine.now in
    let is_grid : IsGrid g = subst IsGrid c.grid.ensures.value c.room.ensures.sound in
    rows_staged c.args.count c.room.result c.args.self.now.batch c.rows.new.self g (state_in c.args.engine.now c.args.self.now texts)
    (c.room.ensures.value ∙ ap (λ (g : Grid). g.room) c.grid.ensures.value) c.if-count-room.false refl
    (c.in-Ok.ensures.staged g is_grid c.requires)
