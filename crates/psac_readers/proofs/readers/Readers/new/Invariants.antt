use Rattle.psac_readers.proofs.Terms.{◌≡◌, ◌∷◌, map, word_of, fresh, first_words}
use Rattle.psac_readers.proofs.readers.Readers.new.Given as goal

abbrev pub invariant-loop-slot : goal.invariant-loop-slot
invariant-loop-slot l = l.words.items ≡ 0 ∷ map word_of (fresh l.slot)

abbrev pub invariant-loop : goal.invariant-loop
invariant-loop l = l.words.items ≡ first_words l.fn.links l.counter
