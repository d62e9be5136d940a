use Rattle.std.proofs.Common.{◌≡◌, ◌<◌, length, List, [], ◌∷◌}
use Rattle.psac_grammar.specs.Machine.{Symbol, functions, Item, of_funcs, run}
use Rattle.psac_lang.proofs.function.functions.Given as goal

abbrev pub invariant-more : goal.invariant-more
invariant-more l = record {
  reads : (s : List Symbol) (vs : List Item) → run l.fn.tokens (functions 0 ∷ s) (of_funcs [] ∷ vs) ≡ run l.tokens (functions (length l.funcs) ∷ s) (of_funcs l.funcs ∷ vs);
  some : 0 < length l.funcs;
}

abbrev pub decreases-more : goal.decreases-more
decreases-more l = length l.tokens.1
