use Rattle.std.proofs.Common.{◌≡◌, ◌+◌, ◌<◌, ◌≤◌, ℕ, length, List, [], ◌∷◌}
use Rattle.psac_tokens.specs.declared.token.Kind.TheVariants.{As}
use Rattle.psac_grammar.specs.Grammar.{top}
use Rattle.psac_grammar.specs.Machine.{Symbol, level, mark, binding, make, item_made, more_items, Item, of_items, run}
use Rattle.psac_lang.proofs.lists.items.Given as goal

abbrev pub invariant-more : goal.invariant-more
invariant-more l = record {
  reads : (b : ℕ) (s : List Symbol) (vs : List Item) → run l.fn.tokens (level top 0 ∷ mark As ∷ binding l.names ∷ make item_made ∷ more_items 1 b l.names ∷ s) (of_items [] ∷ vs) ≡ run l.tokens (more_items (length l.items) b l.names ∷ s) (of_items l.items ∷ vs);
  shorter : length l.tokens.1 < length l.fn.tokens.1;
  few : length l.items ≤ 4;
  room : l.names + length l.items ≤ 24;
}

abbrev pub decreases-more : goal.decreases-more
decreases-more l = length l.tokens.1
