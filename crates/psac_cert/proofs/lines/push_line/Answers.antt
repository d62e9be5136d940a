use Rattle.std.proofs.Common.{◌∙◌, ap, refl, sym}
use Rattle.psac_record.specs.Opened.{look_of}
use Rattle.psac_record.specs.Shown.{kept_of}
use Rattle.psac_cert.proofs.Lined.{led_end, led_made, led_wrote, led_step, led_both, led_block, pushed_on}
use Rattle.psac_cert.proofs.lines.push_line.Goals as goal

pub returns-in_ok-extend_from_slice-in-End-clause-lines : goal.returns-in_ok-extend_from_slice-in-End-clause-lines
returns-in_ok-extend_from_slice-in-End-clause-lines c =
    led_end c.args.with.now (kept_of c.args.tree.now) c.args.left.now.items _ _ (sym c.look.ensures ∙ ap look_of c.in-End.is) (pushed_on c.requires c.in_ok-extend_from_slice-in-End.ensures.items) refl

pub returns-in_ok-push-in-Made-clause-lines : goal.returns-in_ok-push-in-Made-clause-lines
returns-in_ok-push-in-Made-clause-lines c =
    led_made c.args.with.now (kept_of c.args.tree.now) c.args.left.now.items _ _ c.in-Made.field-0 c.in-Made.rest (sym c.look.ensures ∙ ap look_of c.in-Made.is) (pushed_on c.requires c.in_ok-extend_from_slice-in-Made.ensures.items) c.in_ok-push-in-Made.ensures.items

pub returns-in_ok-push-in-Wrote-clause-lines : goal.returns-in_ok-push-in-Wrote-clause-lines
returns-in_ok-push-in-Wrote-clause-lines c =
    led_wrote c.args.with.now (kept_of c.args.tree.now) c.args.left.now.items _ _ c.in-Wrote.handle c.in-Wrote.value c.in-Wrote.rest (sym c.look.ensures ∙ ap look_of c.in-Wrote.is) (pushed_on c.requires c.in_ok-push_write-in-Wrote.ensures) c.in_ok-push-in-Wrote.ensures.items

pub returns-in_ok-push-in-Step-2-clause-lines : goal.returns-in_ok-push-in-Step-2-clause-lines
returns-in_ok-push-in-Step-2-clause-lines c =
    led_step c.args.with.now (kept_of c.args.tree.now) c.args.left.now.items _ _ c.in-Step.field-0 c.in-Step.inner c.in-Step.rest _ (sym c.look.ensures ∙ ap look_of c.in-Step.is) (pushed_on c.requires c.in_ok-extend_from_slice-in-Step.ensures.items) c.in_ok-push-in-Step.ensures.items c.in_ok-push-in-Step-2.ensures.items

pub returns-in_ok-push-in-Both-2-clause-lines : goal.returns-in_ok-push-in-Both-2-clause-lines
returns-in_ok-push-in-Both-2-clause-lines c =
    led_both c.args.with.now (kept_of c.args.tree.now) c.args.left.now.items _ _ c.in-Both.field-0 c.in-Both.first c.in-Both.second _ (sym c.look.ensures ∙ ap look_of c.in-Both.is) (pushed_on c.requires c.in_ok-extend_from_slice-in-Both.ensures.items) c.in_ok-push-in-Both.ensures.items c.in_ok-push-in-Both-2.ensures.items

pub returns-in_ok-push-in-Block-clause-lines : goal.returns-in_ok-push-in-Block-clause-lines
returns-in_ok-push-in-Block-clause-lines c =
    led_block c.args.with.now (kept_of c.args.tree.now) c.args.left.now.items _ _ c.in-Block.reading.now c.in-Block.inner (sym c.look.ensures ∙ ap look_of c.in-Block.is) (pushed_on c.requires c.in_ok-push_block-in-Block.ensures) c.in_ok-push-in-Block.ensures.items
