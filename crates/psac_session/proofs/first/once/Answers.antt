use Rattle.std.proofs.Common.{◌∙◌, sym}
use Rattle.std.proofs.lemmas.Result.{IfOk-weaker}
use Rattle.psac_report.proofs.Once.{once_report_is}
use Rattle.psac_engine.specs.Engine.{caps_in, grid_in, world_in}
use Rattle.psac_session.proofs.FirstText.{text_is}
use Rattle.psac_session.proofs.first.once.Goals as goal

pub returns : goal.returns
returns g c =
    let w = world_in c.args.engine.now in
    IfOk-weaker c.reply_text.result _ _ (λ text is.
    text_is c.program.result.now w _ _ c.args.texts.now _ text.items _ c.first_reply.ensures.world c.program.ensures.world is
    (c.in_ok-reply.ensures.told c.args.texts.now ∙ sym (once_report_is w (caps_in c.args.engine.now) (grid_in c.args.engine.now) c.args.texts.now)))
    c.reply_text.ensures
