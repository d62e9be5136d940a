use Rattle.std.proofs.Common.{◌≡◌, ◌++◌, ◌∙◌, ap, codes, rules}
use Rattle.std.specs.Fmt.{decimal}
use Rattle.std.proofs.lemmas.Result.{IfOk-weaker}
use Rattle.psac_report.specs.Refused.{program_line}
use Rattle.psac_refusals.proofs.refused.syntax_line.Goals as goal

pub returns : goal.returns
returns c =
    let told : c.deref.result.now ≡ codes " column " ++ decimal c.args.column ++ codes " syntax" = search rules in
    IfOk-weaker c.program_line.result _ _ (λ text is. is ∙ ap (program_line c.args.line) told) c.program_line.ensures
