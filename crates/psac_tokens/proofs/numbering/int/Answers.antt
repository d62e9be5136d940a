use Rattle.std.proofs.Common.{arith}
use Rattle.psac_tokens.proofs.Digits.{digits_are}
use Rattle.psac_tokens.proofs.numbering.int.Goals as goal

pub loop-digit-init : goal.loop-digit-init
loop-digit-init c = (digits_are c.args.digits.now, omega arith)
