use Rattle.psac_inputs.proofs.GridRows.{shown-rows}
use Rattle.psac_inputs.proofs.grid.Grid.from_cells.Goals as goal

pub returns : goal.returns
returns c = shown-rows _ _ _
