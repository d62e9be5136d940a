use Rattle.std.proofs.Common.{◌≡◌, ◌<◌, length, List, [], ◌∷◌}
use Rattle.psac_grammar.specs.Machine.{Symbol, values, more_values, Item, of_values, run}
use Rattle.psac_lang.proofs.lists.values.Given as goal

abbrev pub invariant-more : goal.invariant-more
invariant-more l = record {
  reads : (s : List Symbol) (vs : List Item) → run l.fn.tokens (values ∷ s) (of_values [] ∷ vs) ≡ run l.tokens (more_values (length l.values) ∷ s) (of_values l.values ∷ vs);
  shorter : length l.tokens.1 < length l.fn.tokens.1;
}

abbrev pub decreases-more : goal.decreases-more
decreases-more l = length l.tokens.1
