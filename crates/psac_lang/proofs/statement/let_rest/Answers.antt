use Rattle.std.proofs.Common.{◌∙◌, refl, ◌∷◌}
use Rattle.psac_tokens.specs.declared.token.Kind.TheVariants.{Assign, Semicolon}
use Rattle.psac_grammar.specs.Grammar.{top}
use Rattle.psac_grammar.specs.Machine.{level, make, mark, of_name, of_stmts, let_made}
use Rattle.psac_lang.specs.Reads.{operand_item}
use Rattle.psac_lang.proofs.Moves.{makes}
use Rattle.psac_lang.proofs.statement.let_rest.Goals as goal

pub returns-clause-adds : goal.returns-clause-adds
returns-clause-adds c so_far s vs =
    c.in_ok-name.ensures.reads (mark Assign ∷ level top 0 ∷ mark Semicolon ∷ make (let_made c.args.line) ∷ s) (of_stmts so_far ∷ vs)
    ∙ c.in_ok-expect.ensures.reads (level top 0 ∷ mark Semicolon ∷ make (let_made c.args.line) ∷ s) _
    ∙ c.in_ok-value.ensures.reads (mark Semicolon ∷ make (let_made c.args.line) ∷ s) _
    ∙ c.in_ok-expect-2.ensures.reads (make (let_made c.args.line) ∷ s) _
    ∙ makes _ s (operand_item c.in_ok-value.value ∷ of_name c.in_ok-name.name ∷ of_stmts so_far ∷ vs) (let_made c.args.line) refl
