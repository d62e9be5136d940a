use Rattle.std.proofs.Common.{◌∙◌, refl, ◌∷◌, []}
use Rattle.std.proofs.lemmas.Result.{err_from_is_err_and}
use Rattle.psac_tokens.specs.declared.token.Kind.TheVariants.{LeftParen, Semicolon}
use Rattle.psac_grammar.specs.Marked.{fine}
use Rattle.psac_grammar.specs.Machine.{make, mark, values, before_values, of_name, of_names, of_values, of_stmts, call_made, first}
use Rattle.psac_lang.proofs.Moves.{fails_from, makes, one_of_moves}
use Rattle.psac_lang.proofs.statement.call_rest.Goals as goal

pub returns-in_err-take-clause-adds : goal.returns-in_err-take-clause-adds
returns-in_err-take-clause-adds c so_far s vs =
    let p = err_from_is_err_and c.from_residual-in_err-take.result c.from_residual-in_err-take.ensures.1 in
    rw (p.1, p.2) (fails_from _ _ _
    (c.in_ok-func.ensures.reads (before_values ∷ values ∷ mark Semicolon ∷ make (call_made c.args.line) ∷ s) (of_stmts so_far ∷ vs))
    (c.in_err-take.ensures.takes before_values [] (of_values [] ∷ []) (values ∷ mark Semicolon ∷ make (call_made c.args.line) ∷ s) (of_name c.in_ok-func.func ∷ of_stmts so_far ∷ vs) (one_of_moves LeftParen (λ t. fine) (λ t. of_values [] ∷ []) (first c.name.new.tokens))))

pub returns-in_err-values-clause-adds : goal.returns-in_err-values-clause-adds
returns-in_err-values-clause-adds c so_far s vs =
    let p = err_from_is_err_and c.from_residual-in_err-values.result c.from_residual-in_err-values.ensures.1 in
    rw (p.1, p.2) (fails_from _ _ _
    (c.in_ok-func.ensures.reads (before_values ∷ values ∷ mark Semicolon ∷ make (call_made c.args.line) ∷ s) (of_stmts so_far ∷ vs)
    ∙ c.in_ok-take.ensures.takes before_values [] (of_values [] ∷ []) (values ∷ mark Semicolon ∷ make (call_made c.args.line) ∷ s) (of_name c.in_ok-func.func ∷ of_stmts so_far ∷ vs) (one_of_moves LeftParen (λ t. fine) (λ t. of_values [] ∷ []) (first c.name.new.tokens)))
    (c.in_err-values.ensures.reads (mark Semicolon ∷ make (call_made c.args.line) ∷ s) (of_name c.in_ok-func.func ∷ of_stmts so_far ∷ vs)))

pub returns-in_err-dests-clause-adds : goal.returns-in_err-dests-clause-adds
returns-in_err-dests-clause-adds c so_far s vs =
    let p = err_from_is_err_and c.from_residual-in_err-dests.result c.from_residual-in_err-dests.ensures.1 in
    rw (p.1, p.2) (fails_from _ _ _
    (c.in_ok-func.ensures.reads (before_values ∷ values ∷ mark Semicolon ∷ make (call_made c.args.line) ∷ s) (of_stmts so_far ∷ vs)
    ∙ c.in_ok-take.ensures.takes before_values [] (of_values [] ∷ []) (values ∷ mark Semicolon ∷ make (call_made c.args.line) ∷ s) (of_name c.in_ok-func.func ∷ of_stmts so_far ∷ vs) (one_of_moves LeftParen (λ t. fine) (λ t. of_values [] ∷ []) (first c.name.new.tokens))
    ∙ c.in_ok-values.ensures.reads (mark Semicolon ∷ make (call_made c.args.line) ∷ s) (of_name c.in_ok-func.func ∷ of_stmts so_far ∷ vs))
    (c.in_err-dests.ensures.reads (mark Semicolon ∷ make (call_made c.args.line) ∷ s) (of_values c.in_ok-values.values ∷ of_name c.in_ok-func.func ∷ of_stmts so_far ∷ vs)))

pub returns-in_err-expect-clause-adds : goal.returns-in_err-expect-clause-adds
returns-in_err-expect-clause-adds c so_far s vs =
    let p = err_from_is_err_and c.from_residual-in_err-expect.result c.from_residual-in_err-expect.ensures.1 in
    rw (p.1, p.2) (fails_from _ _ _
    (c.in_ok-func.ensures.reads (before_values ∷ values ∷ mark Semicolon ∷ make (call_made c.args.line) ∷ s) (of_stmts so_far ∷ vs)
    ∙ c.in_ok-take.ensures.takes before_values [] (of_values [] ∷ []) (values ∷ mark Semicolon ∷ make (call_made c.args.line) ∷ s) (of_name c.in_ok-func.func ∷ of_stmts so_far ∷ vs) (one_of_moves LeftParen (λ t. fine) (λ t. of_values [] ∷ []) (first c.name.new.tokens))
    ∙ c.in_ok-values.ensures.reads (mark Semicolon ∷ make (call_made c.args.line) ∷ s) (of_name c.in_ok-func.func ∷ of_stmts so_far ∷ vs)
    ∙ c.in_ok-dests.ensures.reads (mark Semicolon ∷ make (call_made c.args.line) ∷ s) (of_values c.in_ok-values.values ∷ of_name c.in_ok-func.func ∷ of_stmts so_far ∷ vs))
    (c.in_err-expect.ensures.reads (make (call_made c.args.line) ∷ s) _))

pub returns-clause-adds : goal.returns-clause-adds
returns-clause-adds c so_far s vs =
    c.in_ok-func.ensures.reads (before_values ∷ values ∷ mark Semicolon ∷ make (call_made c.args.line) ∷ s) (of_stmts so_far ∷ vs)
    ∙ c.in_ok-take.ensures.takes before_values [] (of_values [] ∷ []) (values ∷ mark Semicolon ∷ make (call_made c.args.line) ∷ s) (of_name c.in_ok-func.func ∷ of_stmts so_far ∷ vs) (one_of_moves LeftParen (λ t. fine) (λ t. of_values [] ∷ []) (first c.name.new.tokens))
    ∙ c.in_ok-values.ensures.reads (mark Semicolon ∷ make (call_made c.args.line) ∷ s) (of_name c.in_ok-func.func ∷ of_stmts so_far ∷ vs)
    ∙ c.in_ok-dests.ensures.reads (mark Semicolon ∷ make (call_made c.args.line) ∷ s) (of_values c.in_ok-values.values ∷ of_name c.in_ok-func.func ∷ of_stmts so_far ∷ vs)
    ∙ c.in_ok-expect.ensures.reads (make (call_made c.args.line) ∷ s) _
    ∙ makes _ s (of_names c.in_ok-dests.dests ∷ of_values c.in_ok-values.values ∷ of_name c.in_ok-func.func ∷ of_stmts so_far ∷ vs) (call_made c.args.line) refl
