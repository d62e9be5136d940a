use Rattle.std.proofs.Common.{◌-◌, refl, ◌∷◌, []}
use Rattle.std.proofs.lemmas.Result.{err_from_is_err_and}
use Rattle.psac_grammar.specs.Grammar.{is_chain}
use Rattle.psac_grammar.specs.Machine.{level, tail, make, joined, again, built, first}
use Rattle.psac_lang.proofs.Moves.{passed_at}
use Rattle.psac_lang.proofs.Operands as operands
use Rattle.psac_lang.proofs.expression.take_operator.Goals as goal

pub returns-in_default-clause-takes : goal.returns-in_default-clause-takes
returns-in_default-clause-takes c q s vs = passed_at c.args.tokens.now (tail c.args.level q) s vs built (operands.no_operator c.args.level q c.peek.result (first c.args.tokens.now) c.operator.result c.peek.ensures c.operator.ensures.value c.in_default.is) refl

pub returns-in_err-pass-clause-takes : goal.returns-in_err-pass-clause-takes
returns-in_err-pass-clause-takes c q s vs =
    let p = err_from_is_err_and c.from_residual.result c.from_residual.ensures.1 in
    rw (p.1, p.2) (c.in_err-pass.ensures.passes (tail c.args.level q) (level (c.args.level - 1) q ∷ make (joined c.in-Some.op) ∷ again (is_chain c.args.level) c.args.level q) [] s vs (operands.an_operator c.args.level q c.peek.result (first c.args.tokens.now) c.operator.result c.peek.ensures c.operator.ensures.value c.in-Some.op c.in-Some.is))

pub returns-clause-takes : goal.returns-clause-takes
returns-clause-takes c q s vs =
    c.in_ok-pass.ensures.passes (tail c.args.level q) (level (c.args.level - 1) q ∷ make (joined c.in-Some.op) ∷ again (is_chain c.args.level) c.args.level q) [] s vs (operands.an_operator c.args.level q c.peek.result (first c.args.tokens.now) c.operator.result c.peek.ensures c.operator.ensures.value c.in-Some.op c.in-Some.is)
