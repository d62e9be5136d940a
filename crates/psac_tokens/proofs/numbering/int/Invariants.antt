use Rattle.std.proofs.Common.{◌≡◌, ◌<◌, ◌^◌, drop}
use Rattle.psac_tokens.specs.Number.{int_of}
use Rattle.psac_tokens.proofs.Digits.{int_after}
use Rattle.psac_tokens.proofs.numbering.int.Given as goal

abbrev pub invariant-loop-digit : goal.invariant-loop-digit
invariant-loop-digit l = (int_after l.value (drop l.digit-index l.digits) ≡ int_of l.digits) × (l.value < 2 ^ 63)
