use Rattle.std.proofs.Common.{refl}
use Rattle.psac_inputs.proofs.GridRows.{shown-set}
use Rattle.psac_inputs.proofs.grid.Grid.put.Goals as goal

pub returns : goal.returns
returns c = shown-set c.self.inside _ _ _ _ _ c.self.view_is c.self.invariant c.requires.row c.requires.col refl
