use Rattle.std.proofs.Common.{◌≡◌, ◌∙◌, ap, sym, refl, ◌∷◌, [], None}
use Rattle.psac_tokens.specs.declared.token.Kind.TheVariants.{End}
use Rattle.psac_grammar.specs.Machine.{mark, of_funcs, run, run_with, start, begun, nothing_behind, all_limits}
use Rattle.psac_lang.proofs.Bodies as bodies
use Rattle.psac_lang.proofs.function.whole.Goals as goal

pub returns-then-not-is_empty : goal.returns-then-not-is_empty
returns-then-not-is_empty c =
    let all : run_with all_limits c.args.tokens.now nothing_behind start begun ≡ run c.expect.new.tokens [] (of_funcs c.in_ok-funcs.funcs ∷ []) =
    ap (λ r. run r start begun) (sym c.new-cursor.ensures) ∙ c.in_ok-funcs.ensures (mark End ∷ []) [] ∙ c.in_ok-expect.ensures.reads [] (of_funcs c.in_ok-funcs.funcs ∷ []) in
    let late : c.expect.new.tokens.0.late ≡ None = c.in_ok-expect.ensures.settled in
    rw (c.syntax.ensures, c.peek.ensures) (c.expect.new.tokens.1, all ∙ bodies.stays c.expect.new.tokens _ late (λ e. let no = c.if-not-is_empty.ensures.1 e in cc))

pub returns : goal.returns
returns c =
    ap (λ r. run r start begun) (sym c.new-cursor.ensures) ∙ c.in_ok-funcs.ensures (mark End ∷ []) [] ∙ c.in_ok-expect.ensures.reads [] (of_funcs c.in_ok-funcs.funcs ∷ [])
    ∙ bodies.ended c.expect.new.tokens _ c.in_ok-expect.ensures.settled (c.if-not-is_empty.ensures.0 refl)
