use Rattle.std.proofs.Common.{◌∷◌, [], arith, ap}
use Rattle.psac_ops.specs.declared.plain.Plain.{Plain}
use Rattle.psac_bench.proofs.Cells.{all_made, none_made, one_more}
use Rattle.psac_bench.proofs.made.make_cells.Goals as goal

pub loop-i-init : goal.loop-i-init
loop-i-init c = none_made _ _ c.in_ok-grid.ensures

pub loop-i-preserved : goal.loop-i-preserved
loop-i-preserved c =
    one_more c.args.cells c.loop-i.i _ c.loop-i.grid _ c.loop-i-test.true (ap (λ (v : Plain). v ∷ []) c.int.ensures) c.loop-i.invariant c.put.ensures

pub returns : goal.returns
returns c = all_made c.args.cells c.loop-i.i c.loop-i.grid (omega arith) c.loop-i.invariant
