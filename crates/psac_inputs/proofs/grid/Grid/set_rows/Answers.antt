use Rattle.psac_inputs.proofs.GridRows.{flat_rows}
use Rattle.psac_inputs.proofs.grid.Grid.set_rows.Goals as goal

pub invariant_of-self : goal.invariant_of-self
invariant_of-self c = flat_rows c.self.inside _ c.args.rows c.self.view_is c.self.invariant c.requires.within c.requires.beyond
