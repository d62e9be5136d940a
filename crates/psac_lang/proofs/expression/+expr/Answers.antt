use Rattle.std.proofs.Common.{◌+◌, ◌∙◌, ap, sym, ◌∷◌, [], ◌++◌}
use Rattle.std.proofs.lemmas.Result.{err_from_is_err_and}
use Rattle.psac_tokens.specs.declared.token.Kind.TheVariants.{Comma, RightParen}
use Rattle.psac_grammar.specs.Grammar.{top, start_of, apply_one, is_chain}
use Rattle.psac_grammar.specs.Machine.{level, tails, make, joined, made_one, made_two, mark, opening, again, also, operand, take, first, run}
use Rattle.psac_lang.specs.Marks.{mark_of}
use Rattle.psac_lang.specs.Reads.{operand_item, begins, following, pairing, syntax_halt}
use Rattle.psac_lang.proofs.Moves.{fails_from, refuses_late, refuses_now}
use Rattle.psac_lang.proofs.Operands as operands
use Rattle.psac_lang.proofs.expression.+expr.Goals as goal

pub inner-returns-in_err-pass-clause-reads : goal.inner-returns-in_err-pass-clause-reads
inner-returns-in_err-pass-clause-reads t c x more s vs is =
    let p = err_from_is_err_and c.from_residual.result c.from_residual.ensures.1 in
    rw (p.1, p.2) (c.in_err-pass.ensures.passes x (level top (c.args.parens + 1) ∷ mark RightParen ∷ more) [] s vs (is ∙ ap (λ k. also (mark_of c.args.beyond) (operand k (first c.args.tokens.now) c.args.parens more)) c.requires.starts ∙ ap (λ m. take m (level top (c.args.parens + 1) ∷ mark RightParen ∷ more) []) (sym c.by_parens.ensures.value)))

pub inner-returns-in_err-inside-clause-reads : goal.inner-returns-in_err-inside-clause-reads
inner-returns-in_err-inside-clause-reads t c x more s vs is =
    let p = err_from_is_err_and c.from_residual-in_err-inside.result c.from_residual-in_err-inside.ensures.1 in
    rw (p.1, p.2) (fails_from _ _ _
    (c.in_ok-pass.ensures.passes x (level top (c.args.parens + 1) ∷ mark RightParen ∷ more) [] s vs (is ∙ ap (λ k. also (mark_of c.args.beyond) (operand k (first c.args.tokens.now) c.args.parens more)) c.requires.starts ∙ ap (λ m. take m (level top (c.args.parens + 1) ∷ mark RightParen ∷ more) []) (sym c.by_parens.ensures.value)))
    (c.in_err-inside.ensures.reads (mark RightParen ∷ (more ++ s)) vs))

pub inner-returns-in_err-expect-clause-reads : goal.inner-returns-in_err-expect-clause-reads
inner-returns-in_err-expect-clause-reads t c x more s vs is =
    let p = err_from_is_err_and c.from_residual-in_err-expect.result c.from_residual-in_err-expect.ensures.1 in
    rw (p.1, p.2) (fails_from _ _ _
    (c.in_ok-pass.ensures.passes x (level top (c.args.parens + 1) ∷ mark RightParen ∷ more) [] s vs (is ∙ ap (λ k. also (mark_of c.args.beyond) (operand k (first c.args.tokens.now) c.args.parens more)) c.requires.starts ∙ ap (λ m. take m (level top (c.args.parens + 1) ∷ mark RightParen ∷ more) []) (sym c.by_parens.ensures.value))
    ∙ c.in_ok-inside.ensures.reads (mark RightParen ∷ (more ++ s)) vs)
    (c.in_err-expect.ensures.reads (more ++ s) _))

pub inner-returns-clause-reads : goal.inner-returns-clause-reads
inner-returns-clause-reads t c x more s vs is =
    c.in_ok-pass.ensures.passes x (level top (c.args.parens + 1) ∷ mark RightParen ∷ more) [] s vs (is ∙ ap (λ k. also (mark_of c.args.beyond) (operand k (first c.args.tokens.now) c.args.parens more)) c.requires.starts ∙ ap (λ m. take m (level top (c.args.parens + 1) ∷ mark RightParen ∷ more) []) (sym c.by_parens.ensures.value))
    ∙ c.in_ok-inside.ensures.reads (mark RightParen ∷ (more ++ s)) vs
    ∙ c.in_ok-expect.ensures.reads (more ++ s) _

pub one-returns-in_err-open_paren-clause-reads : goal.one-returns-in_err-open_paren-clause-reads
one-returns-in_err-open_paren-clause-reads t c x more s vs is =
    let p = err_from_is_err_and c.from_residual-in_err-open_paren.result c.from_residual-in_err-open_paren.ensures.1 in
    rw (p.1, p.2) (fails_from _ _ _
    (c.in_ok-pass.ensures.passes x (opening c.args.parens ∷ level top (c.args.parens + 1) ∷ mark RightParen ∷ make (made_one (apply_one c.args.op)) ∷ more) [] s vs (is ∙ ap (λ k. also (mark_of c.args.beyond) (operand k (first c.args.tokens.now) c.args.parens more)) c.requires.starts))
    (c.in_err-open_paren.ensures.reads (level top (c.args.parens + 1) ∷ mark RightParen ∷ make (made_one (apply_one c.args.op)) ∷ (more ++ s)) vs))

pub one-returns-in_err-argument-clause-reads : goal.one-returns-in_err-argument-clause-reads
one-returns-in_err-argument-clause-reads t c x more s vs is =
    let p = err_from_is_err_and c.from_residual-in_err-argument.result c.from_residual-in_err-argument.ensures.1 in
    rw (p.1, p.2) (fails_from _ _ _
    (c.in_ok-pass.ensures.passes x (opening c.args.parens ∷ level top (c.args.parens + 1) ∷ mark RightParen ∷ make (made_one (apply_one c.args.op)) ∷ more) [] s vs (is ∙ ap (λ k. also (mark_of c.args.beyond) (operand k (first c.args.tokens.now) c.args.parens more)) c.requires.starts)
    ∙ c.in_ok-open_paren.ensures.reads (level top (c.args.parens + 1) ∷ mark RightParen ∷ make (made_one (apply_one c.args.op)) ∷ (more ++ s)) vs)
    (c.in_err-argument.ensures.reads (mark RightParen ∷ make (made_one (apply_one c.args.op)) ∷ (more ++ s)) vs))

pub one-returns-in_err-expect-clause-reads : goal.one-returns-in_err-expect-clause-reads
one-returns-in_err-expect-clause-reads t c x more s vs is =
    let p = err_from_is_err_and c.from_residual-in_err-expect.result c.from_residual-in_err-expect.ensures.1 in
    rw (p.1, p.2) (fails_from _ _ _
    (c.in_ok-pass.ensures.passes x (opening c.args.parens ∷ level top (c.args.parens + 1) ∷ mark RightParen ∷ make (made_one (apply_one c.args.op)) ∷ more) [] s vs (is ∙ ap (λ k. also (mark_of c.args.beyond) (operand k (first c.args.tokens.now) c.args.parens more)) c.requires.starts)
    ∙ c.in_ok-open_paren.ensures.reads (level top (c.args.parens + 1) ∷ mark RightParen ∷ make (made_one (apply_one c.args.op)) ∷ (more ++ s)) vs
    ∙ c.in_ok-argument.ensures.reads (mark RightParen ∷ make (made_one (apply_one c.args.op)) ∷ (more ++ s)) vs)
    (c.in_err-expect.ensures.reads (make (made_one (apply_one c.args.op)) ∷ (more ++ s)) _))

pub one-returns-in_err-applied-clause-reads : goal.one-returns-in_err-applied-clause-reads
one-returns-in_err-applied-clause-reads t c x more s vs is =
    let p = err_from_is_err_and c.from_residual-in_err-applied.result c.from_residual-in_err-applied.ensures.1 in
    rw (p.1, p.2) (fails_from _ _ _
    (c.in_ok-pass.ensures.passes x (opening c.args.parens ∷ level top (c.args.parens + 1) ∷ mark RightParen ∷ make (made_one (apply_one c.args.op)) ∷ more) [] s vs (is ∙ ap (λ k. also (mark_of c.args.beyond) (operand k (first c.args.tokens.now) c.args.parens more)) c.requires.starts)
    ∙ c.in_ok-open_paren.ensures.reads (level top (c.args.parens + 1) ∷ mark RightParen ∷ make (made_one (apply_one c.args.op)) ∷ (more ++ s)) vs
    ∙ c.in_ok-argument.ensures.reads (mark RightParen ∷ make (made_one (apply_one c.args.op)) ∷ (more ++ s)) vs
    ∙ c.in_ok-expect.ensures.reads (make (made_one (apply_one c.args.op)) ∷ (more ++ s)) _)
    (c.in_err-applied.ensures.joins (more ++ s) vs))

pub one-returns-clause-reads : goal.one-returns-clause-reads
one-returns-clause-reads t c x more s vs is =
    c.in_ok-pass.ensures.passes x (opening c.args.parens ∷ level top (c.args.parens + 1) ∷ mark RightParen ∷ make (made_one (apply_one c.args.op)) ∷ more) [] s vs (is ∙ ap (λ k. also (mark_of c.args.beyond) (operand k (first c.args.tokens.now) c.args.parens more)) c.requires.starts)
    ∙ c.in_ok-open_paren.ensures.reads (level top (c.args.parens + 1) ∷ mark RightParen ∷ make (made_one (apply_one c.args.op)) ∷ (more ++ s)) vs
    ∙ c.in_ok-argument.ensures.reads (mark RightParen ∷ make (made_one (apply_one c.args.op)) ∷ (more ++ s)) vs
    ∙ c.in_ok-expect.ensures.reads (make (made_one (apply_one c.args.op)) ∷ (more ++ s)) _
    ∙ c.in_ok-applied.ensures.joins (more ++ s) vs

pub two-returns-in_err-open_paren-clause-reads : goal.two-returns-in_err-open_paren-clause-reads
two-returns-in_err-open_paren-clause-reads t c x more s vs is =
    let p = err_from_is_err_and c.from_residual-in_err-open_paren.result c.from_residual-in_err-open_paren.ensures.1 in
    rw (p.1, p.2) (fails_from _ _ _
    (c.in_ok-pass.ensures.passes x (opening c.args.parens ∷ level top (c.args.parens + 1) ∷ mark Comma ∷ level top (c.args.parens + 1) ∷ mark RightParen ∷ make (made_two (pairing c.args.pair)) ∷ more) [] s vs (is ∙ ap (λ k. also (mark_of c.args.beyond) (operand k (first c.args.tokens.now) c.args.parens more)) c.requires.starts))
    (c.in_err-open_paren.ensures.reads (level top (c.args.parens + 1) ∷ mark Comma ∷ level top (c.args.parens + 1) ∷ mark RightParen ∷ make (made_two (pairing c.args.pair)) ∷ (more ++ s)) vs))

pub two-returns-in_err-first-clause-reads : goal.two-returns-in_err-first-clause-reads
two-returns-in_err-first-clause-reads t c x more s vs is =
    let p = err_from_is_err_and c.from_residual-in_err-first.result c.from_residual-in_err-first.ensures.1 in
    rw (p.1, p.2) (fails_from _ _ _
    (c.in_ok-pass.ensures.passes x (opening c.args.parens ∷ level top (c.args.parens + 1) ∷ mark Comma ∷ level top (c.args.parens + 1) ∷ mark RightParen ∷ make (made_two (pairing c.args.pair)) ∷ more) [] s vs (is ∙ ap (λ k. also (mark_of c.args.beyond) (operand k (first c.args.tokens.now) c.args.parens more)) c.requires.starts)
    ∙ c.in_ok-open_paren.ensures.reads (level top (c.args.parens + 1) ∷ mark Comma ∷ level top (c.args.parens + 1) ∷ mark RightParen ∷ make (made_two (pairing c.args.pair)) ∷ (more ++ s)) vs)
    (c.in_err-first.ensures.reads (mark Comma ∷ level top (c.args.parens + 1) ∷ mark RightParen ∷ make (made_two (pairing c.args.pair)) ∷ (more ++ s)) vs))

pub two-returns-in_err-expect-clause-reads : goal.two-returns-in_err-expect-clause-reads
two-returns-in_err-expect-clause-reads t c x more s vs is =
    let p = err_from_is_err_and c.from_residual-in_err-expect.result c.from_residual-in_err-expect.ensures.1 in
    rw (p.1, p.2) (fails_from _ _ _
    (c.in_ok-pass.ensures.passes x (opening c.args.parens ∷ level top (c.args.parens + 1) ∷ mark Comma ∷ level top (c.args.parens + 1) ∷ mark RightParen ∷ make (made_two (pairing c.args.pair)) ∷ more) [] s vs (is ∙ ap (λ k. also (mark_of c.args.beyond) (operand k (first c.args.tokens.now) c.args.parens more)) c.requires.starts)
    ∙ c.in_ok-open_paren.ensures.reads (level top (c.args.parens + 1) ∷ mark Comma ∷ level top (c.args.parens + 1) ∷ mark RightParen ∷ make (made_two (pairing c.args.pair)) ∷ (more ++ s)) vs
    ∙ c.in_ok-first.ensures.reads (mark Comma ∷ level top (c.args.parens + 1) ∷ mark RightParen ∷ make (made_two (pairing c.args.pair)) ∷ (more ++ s)) vs)
    (c.in_err-expect.ensures.reads (level top (c.args.parens + 1) ∷ mark RightParen ∷ make (made_two (pairing c.args.pair)) ∷ (more ++ s)) _))

pub two-returns-in_err-second-clause-reads : goal.two-returns-in_err-second-clause-reads
two-returns-in_err-second-clause-reads t c x more s vs is =
    let p = err_from_is_err_and c.from_residual-in_err-second.result c.from_residual-in_err-second.ensures.1 in
    rw (p.1, p.2) (fails_from _ _ _
    (c.in_ok-pass.ensures.passes x (opening c.args.parens ∷ level top (c.args.parens + 1) ∷ mark Comma ∷ level top (c.args.parens + 1) ∷ mark RightParen ∷ make (made_two (pairing c.args.pair)) ∷ more) [] s vs (is ∙ ap (λ k. also (mark_of c.args.beyond) (operand k (first c.args.tokens.now) c.args.parens more)) c.requires.starts)
    ∙ c.in_ok-open_paren.ensures.reads (level top (c.args.parens + 1) ∷ mark Comma ∷ level top (c.args.parens + 1) ∷ mark RightParen ∷ make (made_two (pairing c.args.pair)) ∷ (more ++ s)) vs
    ∙ c.in_ok-first.ensures.reads (mark Comma ∷ level top (c.args.parens + 1) ∷ mark RightParen ∷ make (made_two (pairing c.args.pair)) ∷ (more ++ s)) vs
    ∙ c.in_ok-expect.ensures.reads (level top (c.args.parens + 1) ∷ mark RightParen ∷ make (made_two (pairing c.args.pair)) ∷ (more ++ s)) _)
    (c.in_err-second.ensures.reads (mark RightParen ∷ make (made_two (pairing c.args.pair)) ∷ (more ++ s)) _))

pub two-returns-in_err-expect-2-clause-reads : goal.two-returns-in_err-expect-2-clause-reads
two-returns-in_err-expect-2-clause-reads t c x more s vs is =
    let p = err_from_is_err_and c.from_residual-in_err-expect-2.result c.from_residual-in_err-expect-2.ensures.1 in
    rw (p.1, p.2) (fails_from _ _ _
    (c.in_ok-pass.ensures.passes x (opening c.args.parens ∷ level top (c.args.parens + 1) ∷ mark Comma ∷ level top (c.args.parens + 1) ∷ mark RightParen ∷ make (made_two (pairing c.args.pair)) ∷ more) [] s vs (is ∙ ap (λ k. also (mark_of c.args.beyond) (operand k (first c.args.tokens.now) c.args.parens more)) c.requires.starts)
    ∙ c.in_ok-open_paren.ensures.reads (level top (c.args.parens + 1) ∷ mark Comma ∷ level top (c.args.parens + 1) ∷ mark RightParen ∷ make (made_two (pairing c.args.pair)) ∷ (more ++ s)) vs
    ∙ c.in_ok-first.ensures.reads (mark Comma ∷ level top (c.args.parens + 1) ∷ mark RightParen ∷ make (made_two (pairing c.args.pair)) ∷ (more ++ s)) vs
    ∙ c.in_ok-expect.ensures.reads (level top (c.args.parens + 1) ∷ mark RightParen ∷ make (made_two (pairing c.args.pair)) ∷ (more ++ s)) _
    ∙ c.in_ok-second.ensures.reads (mark RightParen ∷ make (made_two (pairing c.args.pair)) ∷ (more ++ s)) _)
    (c.in_err-expect-2.ensures.reads (make (made_two (pairing c.args.pair)) ∷ (more ++ s)) _))

pub two-returns-in_err-joined-clause-reads : goal.two-returns-in_err-joined-clause-reads
two-returns-in_err-joined-clause-reads t c x more s vs is =
    let p = err_from_is_err_and c.from_residual-in_err-joined.result c.from_residual-in_err-joined.ensures.1 in
    rw (p.1, p.2) (fails_from _ _ _
    (c.in_ok-pass.ensures.passes x (opening c.args.parens ∷ level top (c.args.parens + 1) ∷ mark Comma ∷ level top (c.args.parens + 1) ∷ mark RightParen ∷ make (made_two (pairing c.args.pair)) ∷ more) [] s vs (is ∙ ap (λ k. also (mark_of c.args.beyond) (operand k (first c.args.tokens.now) c.args.parens more)) c.requires.starts)
    ∙ c.in_ok-open_paren.ensures.reads (level top (c.args.parens + 1) ∷ mark Comma ∷ level top (c.args.parens + 1) ∷ mark RightParen ∷ make (made_two (pairing c.args.pair)) ∷ (more ++ s)) vs
    ∙ c.in_ok-first.ensures.reads (mark Comma ∷ level top (c.args.parens + 1) ∷ mark RightParen ∷ make (made_two (pairing c.args.pair)) ∷ (more ++ s)) vs
    ∙ c.in_ok-expect.ensures.reads (level top (c.args.parens + 1) ∷ mark RightParen ∷ make (made_two (pairing c.args.pair)) ∷ (more ++ s)) _
    ∙ c.in_ok-second.ensures.reads (mark RightParen ∷ make (made_two (pairing c.args.pair)) ∷ (more ++ s)) _
    ∙ c.in_ok-expect-2.ensures.reads (make (made_two (pairing c.args.pair)) ∷ (more ++ s)) _)
    (c.in_err-joined.ensures.joins (more ++ s) vs))

pub two-returns-clause-reads : goal.two-returns-clause-reads
two-returns-clause-reads t c x more s vs is =
    c.in_ok-pass.ensures.passes x (opening c.args.parens ∷ level top (c.args.parens + 1) ∷ mark Comma ∷ level top (c.args.parens + 1) ∷ mark RightParen ∷ make (made_two (pairing c.args.pair)) ∷ more) [] s vs (is ∙ ap (λ k. also (mark_of c.args.beyond) (operand k (first c.args.tokens.now) c.args.parens more)) c.requires.starts)
    ∙ c.in_ok-open_paren.ensures.reads (level top (c.args.parens + 1) ∷ mark Comma ∷ level top (c.args.parens + 1) ∷ mark RightParen ∷ make (made_two (pairing c.args.pair)) ∷ (more ++ s)) vs
    ∙ c.in_ok-first.ensures.reads (mark Comma ∷ level top (c.args.parens + 1) ∷ mark RightParen ∷ make (made_two (pairing c.args.pair)) ∷ (more ++ s)) vs
    ∙ c.in_ok-expect.ensures.reads (level top (c.args.parens + 1) ∷ mark RightParen ∷ make (made_two (pairing c.args.pair)) ∷ (more ++ s)) _
    ∙ c.in_ok-second.ensures.reads (mark RightParen ∷ make (made_two (pairing c.args.pair)) ∷ (more ++ s)) _
    ∙ c.in_ok-expect-2.ensures.reads (make (made_two (pairing c.args.pair)) ∷ (more ++ s)) _
    ∙ c.in_ok-joined.ensures.joins (more ++ s) vs

pub fact-returns-in_err-settle-in-Nothing-clause-reads : goal.fact-returns-in_err-settle-in-Nothing-clause-reads
fact-returns-in_err-settle-in-Nothing-clause-reads t c x more s vs is =
    let p = err_from_is_err_and c.from_residual.result c.from_residual.ensures.1 in
    rw (p.1, p.2) (refuses_late x s vs c.args.tokens.now (is ∙ ap (λ k. also (mark_of c.args.beyond) (operand k (first c.args.tokens.now) c.args.parens more)) (ap (λ t. start_of t.kind t) (sym c.peek-token.ensures) ∙ sym c.beginning.ensures ∙ ap begins c.in-Nothing.is)) c.in_err-settle-in-Nothing.ensures.0 _ c.in_err-settle-in-Nothing.ensures.1 c.in_err-settle-in-Nothing.ensures.2)

pub fact-returns-in_ok-settle-in-Nothing-clause-reads : goal.fact-returns-in_ok-settle-in-Nothing-clause-reads
fact-returns-in_ok-settle-in-Nothing-clause-reads t c x more s vs is =
    rw c.syntax.ensures (refuses_now x s vs c.args.tokens.now (is ∙ ap (λ k. also (mark_of c.args.beyond) (operand k (first c.args.tokens.now) c.args.parens more)) (ap (λ t. start_of t.kind t) (sym c.peek-token.ensures) ∙ sym c.beginning.ensures ∙ ap begins c.in-Nothing.is)) (syntax_halt c.peek-token.result) c.in_ok-settle-in-Nothing.ensures (ap syntax_halt c.peek-token.ensures))

pub expr-returns-in_err-operand-clause-reads : goal.expr-returns-in_err-operand-clause-reads
expr-returns-in_err-operand-clause-reads t c s vs =
    let p = err_from_is_err_and c.from_residual.result c.from_residual.ensures.1 in
    rw (p.1, p.2) (c.in_err-operand.ensures.reads (level c.args.upto c.args.parens) (tails c.args.upto c.args.parens) s vs (operands.level_moves c.args.upto c.args.parens (first c.args.tokens.now)))

pub expr-returns-in_err-tails-clause-reads : goal.expr-returns-in_err-tails-clause-reads
expr-returns-in_err-tails-clause-reads t c s vs =
    let p = err_from_is_err_and c.from_residual-in_err-tails.result c.from_residual-in_err-tails.ensures.1 in
    rw (p.1, p.2) (fails_from _ _ _
    (c.in_ok-operand.ensures.reads (level c.args.upto c.args.parens) (tails c.args.upto c.args.parens) s vs (operands.level_moves c.args.upto c.args.parens (first c.args.tokens.now)))
    (c.in_err-tails.ensures.reads s vs))

pub expr-returns-clause-reads : goal.expr-returns-clause-reads
expr-returns-clause-reads t c s vs =
    c.in_ok-operand.ensures.reads (level c.args.upto c.args.parens) (tails c.args.upto c.args.parens) s vs (operands.level_moves c.args.upto c.args.parens (first c.args.tokens.now))
    ∙ c.in_ok-tails.ensures.reads s vs

pub tail-returns-in_err-all-clause-reads : goal.tail-returns-in_err-all-clause-reads
tail-returns-in_err-all-clause-reads t c s vs =
    let p = err_from_is_err_and c.from_residual-in_err-all.result c.from_residual-in_err-all.ensures.1 in
    rw (p.1, p.2) (fails_from _ _ _
    (c.more.invariant.reads s vs
    ∙ c.in_ok-op.ensures.takes c.args.parens s (operand_item c.more.all ∷ vs)
    ∙ ap (λ o. run c.take_operator.new.tokens (following c.args.level c.args.parens o ++ s) (operand_item c.more.all ∷ vs)) c.in-Some.is
    ∙ c.in_ok-right.ensures.reads (make (joined c.in-Some.op) ∷ again (is_chain c.args.level) c.args.level c.args.parens ++ s) (operand_item c.more.all ∷ vs))
    (c.in_err-all.ensures.joins (again (is_chain c.args.level) c.args.level c.args.parens ++ s) vs))
