use Rattle.std.proofs.Common.{◌≡◌, ◌+◌, ◌<◌, ◌≤◌, length, List, [], ◌∷◌}
use Rattle.psac_grammar.specs.Machine.{Symbol, names, more_names, Item, of_names, run}
use Rattle.psac_lang.specs.Reads.{name_list}
use Rattle.psac_lang.proofs.lists.names.Given as goal

abbrev pub invariant-more : goal.invariant-more
invariant-more l = record {
  reads : (s : List Symbol) (vs : List Item) → run l.fn.tokens (names (name_list l.list) l.beside ∷ s) (of_names [] ∷ vs) ≡ run l.tokens (more_names (name_list l.list) (l.beside + length l.names) ∷ s) (of_names l.names ∷ vs);
  shorter : length l.tokens.1 < length l.fn.tokens.1;
  room : l.beside + length l.names ≤ 24;
}

abbrev pub decreases-more : goal.decreases-more
decreases-more l = length l.tokens.1
