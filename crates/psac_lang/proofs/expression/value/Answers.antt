use Rattle.std.proofs.Common.{◌∙◌, ap, refl, ◌∷◌, ◌++◌}
use Rattle.std.proofs.lemmas.Result.{err_from_is_err_and}
use Rattle.psac_grammar.specs.Grammar.{top}
use Rattle.psac_grammar.specs.Machine.{tails, make, of_values, value_made, run}
use Rattle.psac_lang.specs.Reads.{operand_item}
use Rattle.psac_lang.proofs.Moves.{fails_from, makes}
use Rattle.psac_lang.proofs.expression.value.Goals as goal

pub returns-in_err-whole-clause-reads : goal.returns-in_err-whole-clause-reads
returns-in_err-whole-clause-reads c x more s left es vs is same =
    let p = err_from_is_err_and c.from_residual-in_err-whole.result c.from_residual-in_err-whole.ensures.1 in
    rw (p.1, p.2) (fails_from _ _ _
    (c.in_ok-operand.ensures.reads x (tails top 0 ++ more) s (of_values es ∷ vs) is
    ∙ ap (λ z. run c.fact.new.tokens (tails top 0 ++ z) (operand_item c.in_ok-operand.operand ∷ of_values es ∷ vs)) same)
    (c.in_err-whole.ensures.reads (make value_made ∷ left) (of_values es ∷ vs)))

pub returns-clause-reads : goal.returns-clause-reads
returns-clause-reads c x more s left es vs is same =
    c.in_ok-operand.ensures.reads x (tails top 0 ++ more) s (of_values es ∷ vs) is
    ∙ ap (λ z. run c.fact.new.tokens (tails top 0 ++ z) (operand_item c.in_ok-operand.operand ∷ of_values es ∷ vs)) same
    ∙ c.in_ok-whole.ensures.reads (make value_made ∷ left) (of_values es ∷ vs)
    ∙ makes _ left (operand_item c.in_ok-whole.whole ∷ of_values es ∷ vs) value_made refl
