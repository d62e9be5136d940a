use Rattle.std.proofs.Common.{arith, ◌+◌, ◌∙◌, ap, sym, ◌∷◌, [], ◌++◌, length, length-append, subst}
use Rattle.std.proofs.lemmas.Result.{err_from_is_err_and}
use Rattle.psac_grammar.specs.Machine.{functions, of_funcs, first, run}
use Rattle.psac_lang.specs.Reads.{BeginsFunc}
use Rattle.psac_lang.proofs.Moves.{fails_from}
use Rattle.psac_lang.proofs.Bodies as bodies
use Rattle.psac_lang.proofs.function.functions.Goals as goal

pub returns-in_err-function : goal.returns-in_err-function
returns-in_err-function c s vs =
    let p = err_from_is_err_and c.from_residual.result c.from_residual.ensures.1 in
    rw (p.1, p.2) (c.in_err-function.ensures.adds [] s vs (bodies.begins_first (first c.args.tokens.now)))

pub more-init : goal.more-init
more-init c = record {
  reads = λ s vs. rw (c.in_ok-push.ensures.ok, c.new-funcs.ensures) (c.in_ok-function.ensures.adds [] s vs (bodies.begins_first (first c.args.tokens.now)));
  some = rw (c.in_ok-push.ensures.ok, c.new-funcs.ensures) (omega arith);
}

pub more-preserved : goal.more-preserved
more-preserved c =
    let count = length-append c.more.funcs (c.in_ok-function-2.field-0 ∷ []) in
    record {
      reads = λ s vs. rw (c.in_ok-push-2.ensures.ok, count) (c.more.invariant.reads s vs
          ∙ ap (λ n. run c.more.tokens (functions n ∷ s) (of_funcs c.more.funcs ∷ vs)) (sym c.len-count.ensures)
          ∙ c.in_ok-function-2.ensures.adds c.more.funcs s vs (subst (λ n. BeginsFunc n (first c.more.tokens)) (sym c.len-count.ensures) (bodies.begins_more (length c.more.funcs) c.peek.result (first c.more.tokens) c.peek.ensures c.more-test.ensures))
          ∙ ap (λ n. run c.function-in-more.new.tokens (functions (n + 1) ∷ s) (of_funcs (c.more.funcs ++ c.in_ok-function-2.field-0 ∷ []) ∷ vs)) c.len-count.ensures);
      some = rw (c.in_ok-push-2.ensures.ok, count) (omega arith);
    }

pub returns : goal.returns
returns c s vs =
    c.more.invariant.reads s vs
    ∙ bodies.functions_end c.more.tokens (length c.more.funcs) c.peek.result s (of_funcs c.more.funcs ∷ vs) c.peek.ensures c.more-test.ensures c.more.invariant.some

pub returns-in_err-function-2 : goal.returns-in_err-function-2
returns-in_err-function-2 c s vs =
    let p = err_from_is_err_and c.from_residual-in_err-function-2.result c.from_residual-in_err-function-2.ensures.1 in
    rw (p.1, p.2) (fails_from _ _ _
    (c.more.invariant.reads s vs
    ∙ ap (λ n. run c.more.tokens (functions n ∷ s) (of_funcs c.more.funcs ∷ vs)) (sym c.len-count.ensures))
    (c.in_err-function-2.ensures.adds c.more.funcs s vs (subst (λ n. BeginsFunc n (first c.more.tokens)) (sym c.len-count.ensures) (bodies.begins_more (length c.more.funcs) c.peek.result (first c.more.tokens) c.peek.ensures c.more-test.ensures))))
