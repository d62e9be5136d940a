use Rattle.std.proofs.Common.{refl, inl, inr}
use Rattle.psac_inputs.proofs.GridRows.{cell_none}
use Rattle.psac_inputs.proofs.grid.Grid.holds.Goals as goal
use Rattle.psac_inputs.proofs.grid.Grid.holds.Goals.{then-row-self-via-then-row-self, then-row-self-via-else-row-self+then-col-self}

pub returns-then-row-self : goal.returns-then-row-self
returns-then-row-self c = elim c.then-row-self.branch [
  | then-row-self-via-then-row-self w ↦ rw (cell_none c.self.inside c.args.self.now c.args.row c.args.col c.self.view_is c.self.invariant (inl w.if-row-self.true)) refl
  | then-row-self-via-else-row-self+then-col-self w ↦ rw (cell_none c.self.inside c.args.self.now c.args.row c.args.col c.self.view_is c.self.invariant (inr w.if-col-self.true)) refl
]
