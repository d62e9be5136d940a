use Rattle.std.proofs.Common.{ap, codes, ◌∙◌}
use Rattle.std.proofs.lemmas.Result.{IfOk-weaker}
use Rattle.clap.specs.Words.{App, with_rule}
use Rattle.psac_command.specs.Words.{option}
use Rattle.psac_command.proofs.words.make_command.Goals as goal

pub returns : goal.returns
returns c =
    let workers = c.in_ok-command-2.ensures ∙ ap (λ (a : App). with_rule a (option (codes "workers"))) c.in_ok-command.ensures in
    let nodes = c.in_ok-command-3.ensures ∙ ap (λ (a : App). with_rule a (option (codes "nodes"))) workers in
    let mods = c.in_ok-command-4.ensures ∙ ap (λ (a : App). with_rule a (option (codes "mods"))) nodes in
    let links = c.in_ok-command-5.ensures ∙ ap (λ (a : App). with_rule a (option (codes "links"))) mods in
    IfOk-weaker c.with_option-5.result _ _ (λ r e. e ∙ ap (λ (a : App). with_rule a (option (codes "rows"))) links) c.with_option-5.ensures
