use Rattle.std.proofs.Common.{◌≡◌, ◌++◌, length, false}
use Rattle.psac_tokens.specs.Lex.{content}
use Rattle.psac_tokens.proofs.text.content.Given as goal

abbrev pub invariant-bytes : goal.invariant-bytes
invariant-bytes l = l.bytes.items ++ content l.is_escaped l.rest ≡ content false l.text

abbrev pub decreases-bytes : goal.decreases-bytes
decreases-bytes l = length l.rest
