use Rattle.std.proofs.Common.{◌∙◌, List, ℕ, ◌++◌, ap, sym, subst}
use Rattle.std.specs.Prelude.{codes}
use Rattle.std.proofs.lemmas.Result.{IfOk-weaker}
use Rattle.psac_base.specs.Outside.{Appended, AppendedPart}
use Rattle.psac_base.proofs.Wrote.{Appended-append}
use Rattle.psac_cert.proofs.Dumped.{shown_dump}
use Rattle.psac_cert.proofs.Written.{err_weaker, first_part, nothing_yet, on_err, on_ok, rose_since, second_part}
use Rattle.psac_cert.proofs.write.dump.Goals as goal

pub returns-in-Err-clause-part : goal.returns-in-Err-clause-part
returns-in-Err-clause-part g c = nothing_yet _ (g.K.Sink.held c.args.out.now)

pub returns-in-Err-clause-fresh : goal.returns-in-Err-clause-fresh
returns-in-Err-clause-fresh g c = shown_dump c.args.program.now c.args.grid.now c.args.texts.now c.args.tree.now

pub returns-then-is_err-clause-part : goal.returns-then-is_err-clause-part
returns-then-is_err-clause-part g c =
    subst (λ (xs : List ℕ). AppendedPart (g.K.Sink.held c.args.out.now) (g.K.Sink.held c.write_whole.new.out) xs) c.in-Ok.ensures
    (first_part (codes "psac record 1\n") _ _ _ (on_err c.write_whole.result (sym c.is_err.ensures.value ∙ c.if-is_err.true) c.write_whole.ensures.part))

pub returns-then-is_err-clause-cause : goal.returns-then-is_err-clause-cause
returns-then-is_err-clause-cause g c = λ _.
    on_err c.write_whole.result (sym c.is_err.ensures.value ∙ c.if-is_err.true) c.write_whole.ensures.cause.failed

pub returns-then-is_err-clause-fresh : goal.returns-then-is_err-clause-fresh
returns-then-is_err-clause-fresh g c = shown_dump c.args.program.now c.args.grid.now c.args.texts.now c.args.tree.now

pub returns-clause-ok : goal.returns-clause-ok
returns-clause-ok g c =
    let head : Appended (g.K.Sink.held c.args.out.now) (g.K.Sink.held c.write_whole.new.out) (codes "psac record 1\n") =
    on_ok c.write_whole.result (sym c.is_err.ensures.value ∙ c.if-is_err.false) c.write_whole.ensures.ok in
    IfOk-weaker c.write_lines.result _ _
    (λ x told. subst (λ (xs : List ℕ). Appended (g.K.Sink.held c.args.out.now) (g.K.Sink.held c.write_lines.new.out) xs) c.in-Ok.ensures
    (Appended-append _ _ _ (codes "psac record 1\n") _ head told))
    c.write_lines.ensures.ok

pub returns-clause-part : goal.returns-clause-part
returns-clause-part g c =
    let head : Appended (g.K.Sink.held c.args.out.now) (g.K.Sink.held c.write_whole.new.out) (codes "psac record 1\n") =
    on_ok c.write_whole.result (sym c.is_err.ensures.value ∙ c.if-is_err.false) c.write_whole.ensures.ok in
    err_weaker c.write_lines.result
    (λ told. subst (λ (xs : List ℕ). AppendedPart (g.K.Sink.held c.args.out.now) (g.K.Sink.held c.write_lines.new.out) xs) c.in-Ok.ensures
    (second_part (codes "psac record 1\n") _ _ _ _ head told))
    c.write_lines.ensures.part

pub returns-clause-cause : goal.returns-clause-cause
returns-clause-cause g c = λ bad. rose_since _ _ _ c.write_whole.ensures.cause.later (c.write_lines.ensures.cause bad)

pub returns-clause-fresh : goal.returns-clause-fresh
returns-clause-fresh g c = shown_dump c.args.program.now c.args.grid.now c.args.texts.now c.args.tree.now
