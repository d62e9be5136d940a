use Rattle.std.proofs.Common.{◌∙◌, refl, ◌∷◌}
use Rattle.psac_tokens.specs.declared.token.Kind.TheVariants.{As}
use Rattle.psac_grammar.specs.Machine.{make, mark, binding, of_name, of_items, item_made}
use Rattle.psac_lang.specs.Reads.{operand_item}
use Rattle.psac_lang.proofs.Moves.{makes}
use Rattle.psac_lang.proofs.lists.item.Goals as goal

pub returns-clause-adds : goal.returns-clause-adds
returns-clause-adds c items s vs =
    c.in_ok-from.ensures.reads (mark As ∷ binding c.args.names ∷ make item_made ∷ s) (of_items items ∷ vs)
    ∙ c.in_ok-expect.ensures.reads (binding c.args.names ∷ make item_made ∷ s) _
    ∙ c.in_ok-bound.ensures.reads (make item_made ∷ s) _
    ∙ makes _ s (of_name c.in_ok-bound.bound ∷ operand_item c.in_ok-from.from ∷ of_items items ∷ vs) item_made refl
