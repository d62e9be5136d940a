use Rattle.std.proofs.Common.{◌∙◌, ap, ◌∷◌}
use Rattle.std.proofs.lemmas.Result.{err_from_is_err_and}
use Rattle.psac_grammar.specs.Grammar.{apply_one}
use Rattle.psac_grammar.specs.Machine.{made_one}
use Rattle.psac_lang.specs.Reads.{operand_item, limit_halt}
use Rattle.psac_lang.proofs.Moves.{makes, deep_at}
use Rattle.psac_lang.proofs.Operands as operands
use Rattle.psac_lang.proofs.operand.applied.Goals as goal

pub returns-in_err-depth-clause-joins : goal.returns-in_err-depth-clause-joins
returns-in_err-depth-clause-joins c s vs =
    let p = err_from_is_err_and c.from_residual.result c.from_residual.ensures.1 in
    rw (p.1, p.2) (deep_at c.args.tokens.now s (operand_item c.args.argument ∷ vs) (made_one (apply_one c.args.op)) _ (operands.deep_is _ c.in_err-depth.ensures.1) (c.in_err-depth.ensures.0 ∙ ap (limit_halt 5) c.line.ensures))

pub returns-clause-joins : goal.returns-clause-joins
returns-clause-joins c s vs =
    rw (c.in_ok-push.ensures.ok, c.new-arguments.ensures, c.in_ok-depth.ensures.0)
    (makes c.args.tokens.now s (operand_item c.args.argument ∷ vs) (made_one (apply_one c.args.op)) (operands.fits_is _ c.in_ok-depth.ensures.1))
