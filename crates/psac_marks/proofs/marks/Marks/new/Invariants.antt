use Rattle.psac_marks.proofs.Terms.{◌≡◌, ◌∷◌, map, word_of, fresh, first_words}
use Rattle.psac_marks.proofs.marks.Marks.new.Given as goal

abbrev pub invariant-loop-slot : goal.invariant-loop-slot
invariant-loop-slot l = l.words.items ≡ 0 ∷ map word_of (fresh l.slot)

abbrev pub invariant-blank : goal.invariant-blank
invariant-blank l = l.words.items ≡ first_words l.fn.nodes l.counter
