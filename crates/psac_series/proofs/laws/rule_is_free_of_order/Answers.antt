use Rattle.psac_series.proofs.Lean.{lean_of, meets_of}
use Rattle.psac_series.proofs.laws.rule_is_free_of_order.Goals as goal

pub returns : goal.returns
returns c p = (lean_of p, meets_of p)
