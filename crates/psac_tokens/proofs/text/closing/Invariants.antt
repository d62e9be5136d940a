use Rattle.std.proofs.Common.{◌≡◌, ◌+◌, length, false}
use Rattle.psac_tokens.specs.Lex.{closing}
use Rattle.psac_tokens.proofs.text.closing.Given as goal

abbrev pub invariant-bytes : goal.invariant-bytes
invariant-bytes l = (closing l.is_escaped l.at l.rest ≡ closing false 0 l.text) × (l.at + length l.rest ≡ length l.text)

abbrev pub decreases-bytes : goal.decreases-bytes
decreases-bytes l = length l.rest
