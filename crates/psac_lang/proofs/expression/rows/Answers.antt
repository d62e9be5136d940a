use Rattle.std.proofs.Common.{◌∙◌, ap, sym, refl, ◌∷◌, [], ◌++◌}
use Rattle.std.proofs.lemmas.Result.{err_from_is_err_and}
use Rattle.psac_syntax.specs.declared.program.Expr.TheVariants as expr
use Rattle.psac_tokens.specs.declared.token.Kind.TheVariants.{RightParen}
use Rattle.psac_grammar.specs.Marked.{by_parens}
use Rattle.psac_grammar.specs.Machine.{mark, after_rows, rows_made, also, operand, take, of_expr, first}
use Rattle.psac_lang.specs.Marks.{mark_of}
use Rattle.psac_lang.proofs.Moves.{fails_from, passed_at, or_else-fine}
use Rattle.psac_lang.proofs.Operands as operands
use Rattle.psac_lang.proofs.expression.rows.Goals as goal

pub returns-in_err-pass-2-clause-reads : goal.returns-in_err-pass-2-clause-reads
returns-in_err-pass-2-clause-reads c x more s vs is =
    let p = err_from_is_err_and c.from_residual-in_err-pass-2.result c.from_residual-in_err-pass-2.ensures.1 in
    rw (p.1, p.2) (fails_from _ _ _
    (c.in_ok-pass.ensures.passes x (after_rows c.args.parens ∷ more) [] s vs (is ∙ ap (λ k. also (mark_of c.args.beyond) (operand k (first c.args.tokens.now) c.args.parens more)) c.requires.starts))
    (c.in_err-pass-2.ensures.passes (after_rows c.args.parens) (mark RightParen ∷ []) (of_expr expr.RowCount 1 ∷ []) (more ++ s) vs (operands.rows_counted c.args.parens c.peek.result (first c.pass.new.tokens) c.peek.ensures c.if-ne.ensures
    ∙ ap (λ m. take m (mark RightParen ∷ []) (of_expr expr.RowCount 1 ∷ [])) (sym (c.by_parens.ensures.value ∙ or_else-fine (by_parens c.args.parens))))))

pub returns-in_err-expect-clause-reads : goal.returns-in_err-expect-clause-reads
returns-in_err-expect-clause-reads c x more s vs is =
    let p = err_from_is_err_and c.from_residual-in_err-expect.result c.from_residual-in_err-expect.ensures.1 in
    rw (p.1, p.2) (fails_from _ _ _
    (c.in_ok-pass.ensures.passes x (after_rows c.args.parens ∷ more) [] s vs (is ∙ ap (λ k. also (mark_of c.args.beyond) (operand k (first c.args.tokens.now) c.args.parens more)) c.requires.starts)
    ∙ c.in_ok-pass-2.ensures.passes (after_rows c.args.parens) (mark RightParen ∷ []) (of_expr expr.RowCount 1 ∷ []) (more ++ s) vs (operands.rows_counted c.args.parens c.peek.result (first c.pass.new.tokens) c.peek.ensures c.if-ne.ensures
    ∙ ap (λ m. take m (mark RightParen ∷ []) (of_expr expr.RowCount 1 ∷ [])) (sym (c.by_parens.ensures.value ∙ or_else-fine (by_parens c.args.parens)))))
    (c.in_err-expect.ensures.reads (more ++ s) (of_expr expr.RowCount 1 ∷ vs)))

pub returns-clause-reads : goal.returns-clause-reads
returns-clause-reads c x more s vs is =
    c.in_ok-pass.ensures.passes x (after_rows c.args.parens ∷ more) [] s vs (is ∙ ap (λ k. also (mark_of c.args.beyond) (operand k (first c.args.tokens.now) c.args.parens more)) c.requires.starts)
    ∙ c.in_ok-pass-2.ensures.passes (after_rows c.args.parens) (mark RightParen ∷ []) (of_expr expr.RowCount 1 ∷ []) (more ++ s) vs (operands.rows_counted c.args.parens c.peek.result (first c.pass.new.tokens) c.peek.ensures c.if-ne.ensures
    ∙ ap (λ m. take m (mark RightParen ∷ []) (of_expr expr.RowCount 1 ∷ [])) (sym (c.by_parens.ensures.value ∙ or_else-fine (by_parens c.args.parens))))
    ∙ c.in_ok-expect.ensures.reads (more ++ s) (of_expr expr.RowCount 1 ∷ vs)

pub returns-then-ne-clause-reads : goal.returns-then-ne-clause-reads
returns-then-ne-clause-reads c x more s vs is =
    c.in_ok-pass.ensures.passes x (after_rows c.args.parens ∷ more) [] s vs (is ∙ ap (λ k. also (mark_of c.args.beyond) (operand k (first c.args.tokens.now) c.args.parens more)) c.requires.starts)
    ∙ passed_at c.pass.new.tokens (after_rows c.args.parens) (more ++ s) vs rows_made (operands.rows_alone c.args.parens c.peek.result (first c.pass.new.tokens) c.peek.ensures c.if-ne.ensures) refl
