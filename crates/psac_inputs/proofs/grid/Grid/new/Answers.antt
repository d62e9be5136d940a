use Rattle.std.proofs.Common.{◌≡◌, ap, arith, replicate, ◌*◌, ◌∙◌}
use Rattle.psac_ops.specs.declared.plain.Plain.TheVariants.{Nil}
use Rattle.psac_inputs.specs.Grid.{grid_of, rows_of}
use Rattle.psac_inputs.proofs.GridRows.{rows_of-replicate}
use Rattle.psac_inputs.proofs.grid.Grid.new.Goals as goal

pub returns : goal.returns
returns c =
    let all : c.loop-i._i ≡ c.args.rows * c.args.cols = omega arith in
    let cells = c.loop-i.invariant ∙ ap (λ n. replicate n Nil) all in
    c.from_cells.ensures ∙ ap (grid_of c.args.cols) (ap (rows_of c.args.cols c.args.rows) cells ∙ rows_of-replicate c.args.cols c.args.rows Nil)
