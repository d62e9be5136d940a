use Rattle.psac_inputs.proofs.GridRows.{cell_of}
use Rattle.psac_inputs.proofs.grid.Grid.get.Goals as goal

pub returns-clause-value : goal.returns-clause-value
returns-clause-value c =
    cell_of c.self.inside _ _ _ _ c.self.view_is c.self.invariant c.requires.row c.requires.col c.index.ensures
