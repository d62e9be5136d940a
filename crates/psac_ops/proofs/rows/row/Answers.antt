use Rattle.std.proofs.Common.{rules}
use Rattle.psac_ops.proofs.Places.{op_at, right_at}
use Rattle.psac_ops.proofs.rows.row.Goals as goal

pub returns-clause-operator : goal.returns-clause-operator
returns-clause-operator c = op_at c.operators.result _ _ c.args.op c.operators.ensures.order (search rules)

pub returns-clause-right : goal.returns-clause-right
returns-clause-right c = right_at c.operators.result _ _ c.operators.ensures.order c.operators.ensures.rows (search rules)
