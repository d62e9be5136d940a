use Rattle.std.proofs.Common.{◌≡◌, map, take}
use Rattle.psac_tokens.proofs.distinct.Distinct.names.Given as goal

abbrev pub invariant-loop-word : goal.invariant-loop-word
invariant-loop-word l = l.names ≡ map (λ word. word.items) (take l.word-index l.word-items)
