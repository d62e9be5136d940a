use Rattle.std.proofs.Common.{◌+◌, ◌∙◌, ap, sym, ◌∷◌}
use Rattle.std.proofs.lemmas.Result.{err_from_is_err_and}
use Rattle.psac_grammar.specs.Marked.{is_deep}
use Rattle.psac_grammar.specs.Machine.{made_two}
use Rattle.psac_lang.specs.Reads.{operand_item, pairing, limit_halt}
use Rattle.psac_lang.proofs.Moves.{makes, deep_at}
use Rattle.psac_lang.proofs.Operands as operands
use Rattle.psac_lang.proofs.operand.joined.Goals as goal

pub returns-in_err-depth-clause-joins : goal.returns-in_err-depth-clause-joins
returns-in_err-depth-clause-joins c s vs =
    let p = err_from_is_err_and c.from_residual.result c.from_residual.ensures.1 in
    rw (p.1, p.2) (deep_at c.args.tokens.now s (operand_item c.args.second ∷ operand_item c.args.first ∷ vs) (made_two (pairing c.args.pair)) _
    (operands.deep_is _ (ap (λ n. is_deep (n + 1)) (sym c.deeper.ensures) ∙ c.in_err-depth.ensures.1)) (c.in_err-depth.ensures.0 ∙ ap (limit_halt 5) c.line.ensures))

pub returns-clause-joins : goal.returns-clause-joins
returns-clause-joins c s vs =
    rw (c.in_ok-expr.ensures, c.in_ok-depth.ensures.0, c.deeper.ensures)
    (makes c.args.tokens.now s (operand_item c.args.second ∷ operand_item c.args.first ∷ vs) (made_two (pairing c.args.pair)) (operands.fits_is _ (ap (λ n. is_deep (n + 1)) (sym c.deeper.ensures) ∙ c.in_ok-depth.ensures.1)))
