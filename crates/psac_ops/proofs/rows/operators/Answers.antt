use Rattle.std.proofs.Common.{refl}
use Rattle.std.proofs.lemmas.Cmp.{nat_list_eq_equiv}
use Rattle.std.proofs.lemmas.Map.Made.{IsDistinct-from_count}
use Rattle.psac_ops.proofs.rows.operators.Goals as goal

pub returns-clause-names : goal.returns-clause-names
returns-clause-names c = IsDistinct-from_count nat_list_eq_equiv _ refl
