use Rattle.psac_script.proofs.OutputNames.{output_names_is}
use Rattle.psac_script.proofs.reply.outputs_text.Goals as goal

pub returns : goal.returns
returns c = λ ids world same. rw (output_names_is c.args.program.now ids world same) c.in_ok-text.ensures
