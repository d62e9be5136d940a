use Rattle.std.proofs.Common.{inr}
use Rattle.std.specs.Prelude.{codes}
use Rattle.psac_engine.specs.Engine.{caps_in, grid_in, world_in}
use Rattle.psac_certify.proofs.Reading.{whole_script}
use Rattle.psac_certify.proofs.Recorded.{too_large}
use Rattle.psac_certify.proofs.certify.run_certify.Goals as goal

pub returns-in-Err-Full-clause-whole : goal.returns-in-Err-Full-clause-whole
returns-in-Err-Full-clause-whole g c = λ zero.
    let e = c.args.opened.now.engine in
    record {
      script = c.in-Ok.text.items;
      is_script = whole_script _ _ _ _ _ c.in-Ok.ensures.all;
      text = codes "full\n";
      is_text = inr (too_large (world_in e) (caps_in e) (grid_in e) _
          (rw c.in-Err-Full.field-0-is at c.in-Err-Full.ensures.undecided));
      written = c.finish.ensures.whole zero;
    }

pub returns-in-Err-Full-clause-part : goal.returns-in-Err-Full-clause-part
returns-in-Err-Full-clause-part g c = λ seven.
    let e = c.args.opened.now.engine in
    record {
      script = c.in-Ok.text.items;
      is_script = whole_script _ _ _ _ _ c.in-Ok.ensures.all;
      text = codes "full\n";
      is_text = inr (too_large (world_in e) (caps_in e) (grid_in e) _
          (rw c.in-Err-Full.field-0-is at c.in-Err-Full.ensures.undecided));
      written = c.finish.ensures.part seven;
    }
