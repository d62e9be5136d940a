use Rattle.psac_values.proofs.Terms.{◌≡◌, ◌∷◌, ◌++◌, map, word_of, fresh, repeated}
use Rattle.psac_values.proofs.values.Values.new.Given as goal

abbrev pub invariant-loop-slot : goal.invariant-loop-slot
invariant-loop-slot l = l.words.items ≡ 0 ∷ map word_of (fresh l.slot)

abbrev pub invariant-states : goal.invariant-states
invariant-states l = l.words.items ≡ (0 ∷ map word_of (fresh l.fn.mods)) ++ repeated 2 l.counter

abbrev pub invariant-values : goal.invariant-values
invariant-values l = l.words.items ≡ ((0 ∷ map word_of (fresh l.fn.mods)) ++ repeated 2 l.fn.mods) ++ repeated 0 l.counter
