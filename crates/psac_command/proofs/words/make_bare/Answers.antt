use Rattle.std.proofs.Common.{ap, codes, true, ◌≡◌, ◌∙◌}
use Rattle.std.proofs.lemmas.Result.{IfOk-weaker}
use Rattle.clap.specs.Simple.{app_of_fields}
use Rattle.clap.specs.Words.{App, app_of, with_rule}
use Rattle.clap.specs.declared.builder.command.Command.{Command}
use Rattle.clap.specs.declared.builder.command.Command.TheOpen.{Command-F}
use Rattle.psac_command.specs.Words.{bare_app, positional}
use Rattle.psac_command.proofs.words.make_bare.Goals as goal

abbrev without_flags : App → App
without_flags a = record a { top = record a.top { disable_help_flag = true; disable_version_flag = true } }

pub returns : goal.returns
returns c =
    let bare : app_of c.disable_version_flag-command.result ≡ bare_app =
    ap app_of_fields c.disable_version_flag-command.ensures
    ∙ ap (λ (x : Command-F Command). app_of_fields (record x { disable_version_flag = true })) c.disable_help_flag.ensures
    ∙ ap without_flags c.new.ensures.app in
    let mode = c.in_ok-command.ensures ∙ ap (λ (a : App). with_rule a (positional (codes "mode"))) bare in
    let program = c.in_ok-command-2.ensures ∙ ap (λ (a : App). with_rule a (positional (codes "program"))) mode in
    IfOk-weaker c.with_positional-3.result _ _ (λ r e. e ∙ ap (λ (a : App). with_rule a (positional (codes "input"))) program) c.with_positional-3.ensures
