use Rattle.std.proofs.Common.{[], ◌∙◌, ap, sym}
use Rattle.psac_tokens.specs.declared.token.Kind.TheVariants.{LeftParen}
use Rattle.psac_grammar.specs.Marked.{by_parens}
use Rattle.psac_grammar.specs.Machine.{opening, builds_nothing, first}
use Rattle.psac_lang.specs.Reads.{taken}
use Rattle.psac_lang.proofs.Moves.{one_of_moves, or_else-fine}
use Rattle.psac_lang.proofs.reading.open_paren.Goals as goal

pub returns-clause-reads : goal.returns-clause-reads
returns-clause-reads c s vs = c.take.ensures.takes (opening c.args.parens) [] [] s vs (one_of_moves LeftParen (λ t. by_parens c.args.parens) builds_nothing (first c.args.tokens.now)
    ∙ ap (λ m. taken (first c.args.tokens.now).kind LeftParen m [] []) (sym (c.by_parens.ensures.value ∙ or_else-fine (by_parens c.args.parens))))
