use Rattle.std.proofs.Common.{[], ◌∙◌, ap, sym}
use Rattle.std.proofs.lemmas.Result.{err_from_is_err_and}
use Rattle.psac_tokens.specs.declared.token.Kind.TheVariants.{Name}
use Rattle.psac_grammar.specs.Marked.{by_length}
use Rattle.psac_grammar.specs.Machine.{one_of, named, first}
use Rattle.psac_lang.specs.Marks.{mark_of}
use Rattle.psac_lang.specs.Reads.{taken}
use Rattle.psac_lang.proofs.Moves.{one_of_moves}
use Rattle.psac_lang.proofs.reading.named.Goals as goal

pub returns-in_err-take-clause-takes : goal.returns-in_err-take-clause-takes
returns-in_err-take-clause-takes c s vs =
    let p = err_from_is_err_and c.from_residual.result c.from_residual.ensures.1 in
    rw (p.1, p.2) (c.in_err-take.ensures.takes (one_of Name (by_length (mark_of c.args.mark)) named) [] (named (first c.args.tokens.now)) s vs (one_of_moves Name (by_length (mark_of c.args.mark)) named (first c.args.tokens.now)
    ∙ ap (λ m. taken (first c.args.tokens.now).kind Name m [] (named (first c.args.tokens.now))) (ap (by_length (mark_of c.args.mark)) (sym c.peek-token.ensures) ∙ sym c.by_length.ensures.value)))

pub returns-clause-takes : goal.returns-clause-takes
returns-clause-takes c s vs =
    rw c.peek-token.ensures (c.in_ok-take.ensures.takes (one_of Name (by_length (mark_of c.args.mark)) named) [] (named (first c.args.tokens.now)) s vs (one_of_moves Name (by_length (mark_of c.args.mark)) named (first c.args.tokens.now)
    ∙ ap (λ m. taken (first c.args.tokens.now).kind Name m [] (named (first c.args.tokens.now))) (ap (by_length (mark_of c.args.mark)) (sym c.peek-token.ensures) ∙ sym c.by_length.ensures.value)))
