use Rattle.std.proofs.Common.{refl, Err}
use Rattle.psac_open.specs.Accept.{Limit, Refuses, Syntax}
use Rattle.psac_open.proofs.Lines.{breach_means, line_means, no_limit, no_syntax}
use Rattle.psac_open.proofs.program.accept.Goals as goal

pub returns-in-Err-Syntax-clause-refused : goal.returns-in-Err-Syntax-clause-refused
returns-in-Err-Syntax-clause-refused c =
    line_means (Refuses c.args.bytes.now) _ c.syntax_line.result c.refused.result c.syntax_line.ensures c.refused.ensures
    (Syntax c.in-Err-Syntax.line c.in-Err-Syntax.column
    (no_syntax _ (Err c.in-Err-Syntax.field-0) c.in-Err-Syntax.line c.in-Err-Syntax.column (rw c.in-Err-Syntax.field-0-is refl) c.in-Err-Syntax.ensures.only)
    (c.in-Err-Syntax.ensures.syntax _ _ (rw c.in-Err-Syntax.field-0-is refl)) refl)

pub returns-in-Err-Limit-clause-refused : goal.returns-in-Err-Limit-clause-refused
returns-in-Err-Limit-clause-refused c =
    line_means (Refuses c.args.bytes.now) _ c.limit_line.result c.refused-in-Err-Limit.result c.limit_line.ensures c.refused-in-Err-Limit.ensures
    (Limit c.in-Err-Limit.which c.in-Err-Limit.line
    (no_limit _ (Err c.in-Err-Limit.field-0) c.in-Err-Limit.which c.in-Err-Limit.line (rw c.in-Err-Limit.field-0-is refl) c.in-Err-Limit.ensures.only)
    (c.in-Err-Limit.ensures.limit _ _ (rw c.in-Err-Limit.field-0-is refl)) refl)

pub returns-in-Err : goal.returns-in-Err
returns-in-Err c =
    record {
      accepted = tt;
      refused = breach_means c.args.bytes.now c.in-Ok.program _ c.breached.result c.in-Ok.ensures.text c.in-Err.ensures.fault c.breached.ensures;
    }
