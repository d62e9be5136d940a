use Rattle.psac_inputs.proofs.GridRows.{shown_is_grid}
use Rattle.psac_inputs.proofs.grid.Grid.room.Goals as goal

pub returns-clause-sound : goal.returns-clause-sound
returns-clause-sound c = shown_is_grid c.self.inside _ c.self.view_is c.self.invariant
