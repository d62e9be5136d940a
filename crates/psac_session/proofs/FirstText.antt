-- The text of the reply to a first commit.
use Rattle.std.proofs.Common.{◌≡◌, ◌∙◌, ℕ, List, Some, ap}
use Rattle.psac_ops.specs.declared.plain.TextId.{TextId}
use Rattle.psac_syntax.specs.declared.program.Program.{Program}
use Rattle.psac_inputs.specs.Texts.{Texts}
use Rattle.psac_model.specs.Fresh.{World, world_of}
use Rattle.psac_report.specs.Session.{reply_text}
use Rattle.psac_script.specs.declared.reply.Reply.{Reply}
use Rattle.psac_script.specs.Replies.{IsTextOfReply, reply_view}

pub text_is : (p : Program) (w now : World) (ids : List TextId) (texts : Texts) (reply : Reply) (text report : List ℕ)
    → now ≡ w → world_of p ids ≡ Some now → IsTextOfReply p texts reply text → reply_text w texts (reply_view reply) ≡ report → text ≡ report
text_is p w now ids texts reply text report same world is told = is ids now world ∙ ap (λ (x : World). reply_text x texts (reply_view reply)) same ∙ told
