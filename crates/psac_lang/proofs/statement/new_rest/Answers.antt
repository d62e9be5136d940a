use Rattle.std.proofs.Common.{◌∙◌, refl, ◌∷◌}
use Rattle.psac_tokens.specs.declared.token.Kind.TheVariants.{Semicolon}
use Rattle.psac_grammar.specs.Machine.{make, mark, of_name, of_stmts, new_made}
use Rattle.psac_lang.proofs.Moves.{makes}
use Rattle.psac_lang.proofs.statement.new_rest.Goals as goal

pub returns-clause-adds : goal.returns-clause-adds
returns-clause-adds c so_far s vs =
    c.in_ok-name.ensures.reads (mark Semicolon ∷ make (new_made c.args.line) ∷ s) (of_stmts so_far ∷ vs)
    ∙ c.in_ok-expect.ensures.reads (make (new_made c.args.line) ∷ s) _
    ∙ makes _ s (of_name c.in_ok-name.name ∷ of_stmts so_far ∷ vs) (new_made c.args.line) refl
