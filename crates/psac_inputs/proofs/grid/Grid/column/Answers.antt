use Rattle.std.proofs.Common.{rules, ◌∙◌}
use Rattle.psac_inputs.proofs.OneColumn.{column_rows}
use Rattle.psac_inputs.proofs.grid.Grid.column.Goals as goal

pub returns : goal.returns
returns c = c.from_cells.ensures ∙ column_rows _ _ _ (search rules) (search rules)
