use Rattle.std.proofs.Common.{◌∙◌, ap}
use Rattle.std.proofs.lemmas.Result.{err_from_is_err_and}
use Rattle.psac_grammar.specs.Machine.{take}
use Rattle.psac_lang.specs.Reads.{limit_halt}
use Rattle.psac_lang.specs.Marks.{mark_of}
use Rattle.psac_lang.proofs.Moves.{takes_late, takes_over, takes_end, takes_on, not_over, settles}
use Rattle.psac_lang.proofs.reading.pass.Goals as goal

pub returns-in_err-settle-clause-passes : goal.returns-in_err-settle-clause-passes
returns-in_err-settle-clause-passes c x more new s vs is =
    let p = err_from_is_err_and c.from_residual.result c.from_residual.ensures.1 in
    rw (p.1, p.2) (takes_late x s vs more new c.args.tokens.now (mark_of c.args.mark) c.in_err-settle.ensures.0 _ c.in_err-settle.ensures.1 c.in_err-settle.ensures.2 is)

pub returns-in-Over-clause-passes : goal.returns-in-Over-clause-passes
returns-in-Over-clause-passes c x more new s vs is =
    takes_over x s vs more new c.args.tokens.now c.in-Over.which (limit_halt c.in-Over.which c.peek.result.line) c.in_ok-settle.ensures (ap (λ t. limit_halt c.in-Over.which t.line) c.peek.ensures) (is ∙ ap (λ m. take (mark_of m) more new) c.in-Over.is)

pub returns-in_err-skip : goal.returns-in_err-skip
returns-in_err-skip c =
    let p = err_from_is_err_and c.from_residual-in_err-skip.result c.from_residual-in_err-skip.ensures.1 in
    record {
      passes = λ x more new s vs is. rw (p.1, p.2) (takes_end x s vs more new c.args.tokens.now c.args.mark _ c.in_ok-settle.ensures (not_over _ c.in_default.not-Over) c.in_err-skip.ensures.ended.0 c.in_err-skip.ensures.ended.1 is);
      settled = rw p.1 tt;
      shorter = rw p.1 tt;
      fits = rw p.1 tt;
    }

pub returns : goal.returns
returns c = record {
  passes = λ x more new s vs is. takes_on x s vs more new c.args.tokens.now c.args.mark c.skip.new.self c.in_ok-settle.ensures (not_over _ c.in_default.not-Over) c.in_ok-skip.ensures.past c.in_ok-skip.ensures.shorter is;
  settled = settles c.args.tokens.now c.skip.new.self (mark_of c.args.mark) c.in_ok-skip.ensures.past c.in_ok-skip.ensures.shorter;
  shorter = c.in_ok-skip.ensures.shorter;
  fits = not_over _ c.in_default.not-Over;
}
