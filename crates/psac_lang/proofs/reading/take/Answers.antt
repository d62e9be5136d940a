use Rattle.std.proofs.Common.{◌∙◌, ap}
use Rattle.std.proofs.lemmas.Result.{err_from_is_err_and}
use Rattle.psac_lang.specs.Reads.{syntax_halt}
use Rattle.psac_lang.specs.Marks.{mark_of}
use Rattle.psac_lang.proofs.Moves.{refuses_late, refuses_now, taken_other, taken_same}
use Rattle.psac_lang.proofs.reading.take.Goals as goal

pub returns-in_err-settle-clause-takes : goal.returns-in_err-settle-clause-takes
returns-in_err-settle-clause-takes c x more new s vs is =
    let p = err_from_is_err_and c.from_residual.result c.from_residual.ensures.1 in
    rw (p.1, p.2) (refuses_late x s vs c.args.tokens.now (is ∙ taken_other _ _ c.args.kind (mark_of c.args.mark) more new c.peek-token.ensures c.if-ne.ensures) c.in_err-settle.ensures.0 _ c.in_err-settle.ensures.1 c.in_err-settle.ensures.2)

pub returns-then-ne-clause-takes : goal.returns-then-ne-clause-takes
returns-then-ne-clause-takes c x more new s vs is =
    rw c.syntax.ensures (refuses_now x s vs c.args.tokens.now (is ∙ taken_other _ _ c.args.kind (mark_of c.args.mark) more new c.peek-token.ensures c.if-ne.ensures) (syntax_halt c.peek-token.result) c.in_ok-settle.ensures (ap syntax_halt c.peek-token.ensures))

pub returns-in_err-pass-clause-takes : goal.returns-in_err-pass-clause-takes
returns-in_err-pass-clause-takes c x more new s vs is =
    let p = err_from_is_err_and c.from_residual-in_err-pass.result c.from_residual-in_err-pass.ensures.1 in
    rw (p.1, p.2) (c.in_err-pass.ensures.passes x more new s vs (is ∙ taken_same _ _ c.args.kind (mark_of c.args.mark) more new c.peek-token.ensures c.if-ne.ensures))

pub returns-clause-takes : goal.returns-clause-takes
returns-clause-takes c x more new s vs is =
    c.in_ok-pass.ensures.passes x more new s vs (is ∙ taken_same _ _ c.args.kind (mark_of c.args.mark) more new c.peek-token.ensures c.if-ne.ensures)
