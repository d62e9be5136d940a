use Rattle.std.proofs.Common.{rules}
use Rattle.psac_base.proofs.Printed.{printed_if_Some}
use Rattle.psac_base.proofs.number.read_int.Goals as goal

pub returns-clause-printed : goal.returns-clause-printed
returns-clause-printed c = printed_if_Some c.args.bytes.now c.signed.result (search rules)
