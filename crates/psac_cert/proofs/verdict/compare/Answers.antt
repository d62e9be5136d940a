use Rattle.std.proofs.Common.{◌∙◌, codes, sym, arith}
use Rattle.std.proofs.lemmas.Result.{IfOk-weaker}
use Rattle.psac_cert.proofs.Parting.{starts, starts_other}
use Rattle.psac_cert.proofs.verdict.compare.Goals as goal

pub returns-then-at-head : goal.returns-then-at-head
returns-then-at-head c =
    sym (starts_other c.common_len-at.result c.args.text.now (codes "psac record 1\n") _ _ (sym c.in_ok-with.ensures)
    c.common_len-at.ensures.common
    (omega (arith, c.if-at-head.true)))

pub returns : goal.returns
returns c =
    IfOk-weaker c.compare_lines.result _ _
    (λ v is. is ∙ sym (starts c.common_len-at.result c.args.text.now (codes "psac record 1\n") _ _ (sym c.in_ok-with.ensures)
    c.common_len-at.ensures.common
    (omega (arith, c.if-at-head.false))))
    c.compare_lines.ensures
