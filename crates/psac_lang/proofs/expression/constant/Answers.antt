use Rattle.std.proofs.Common.{◌∙◌, ap, sym, ◌∷◌, []}
use Rattle.psac_grammar.specs.Marked.{by_size, or_else}
use Rattle.psac_grammar.specs.Machine.{also, operand, take, of_expr, first}
use Rattle.psac_lang.specs.Marks.{mark_of}
use Rattle.psac_lang.proofs.expression.constant.Goals as goal

pub returns-clause-reads : goal.returns-clause-reads
returns-clause-reads c p x more s vs is =
    c.in_ok-pass.ensures.passes x more (of_expr c.args.expr 1 ∷ []) s vs (is ∙ ap (λ k. also (mark_of c.args.beyond) (operand k (first c.args.tokens.now) p more)) c.requires
    ∙ ap (λ m. take m more (of_expr c.args.expr 1 ∷ [])) (ap (λ t. or_else (by_size t) (mark_of c.args.beyond)) (sym c.peek.ensures) ∙ sym c.by_size-mark.ensures))
