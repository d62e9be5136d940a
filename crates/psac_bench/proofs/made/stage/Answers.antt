use Rattle.std.proofs.Common.{refl, ap, ◌∙◌}
use Rattle.psac_inputs.specs.Batch.{Batch}
use Rattle.psac_bench.proofs.Edits.{edit_more}
use Rattle.psac_bench.proofs.made.stage.Goals as goal

pub loop-j-preserved : goal.loop-j-preserved
loop-j-preserved c =
    let i = c.loop-j.invariant in
    record {
      staged = λ g. edit_more c.args.cells c.args.number c.loop-j.j _ _ _ _ _ c.requires.least refl c.int-value.ensures (i.staged g) (c.in-Ok.ensures.staged g);
      goes = λ g goes. c.in-Ok.ensures.goes g (i.goes g goes);
      rows = ap (λ (b : Batch). b.rows) c.in-Ok.ensures.ok ∙ i.rows;
      cols = ap (λ (b : Batch). b.cols) c.in-Ok.ensures.ok ∙ i.cols;
    }
