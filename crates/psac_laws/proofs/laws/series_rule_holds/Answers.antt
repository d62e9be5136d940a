use Rattle.psac_laws.proofs.Checked.{is_checked}
use Rattle.psac_laws.proofs.Opening.{in_series}
use Rattle.psac_laws.proofs.laws.series_rule_holds.Goals as goal

pub returns : goal.returns
returns c w g rule main whole even = in_series w g whole even (is_checked w rule main)
