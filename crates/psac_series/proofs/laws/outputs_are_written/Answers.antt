use Rattle.psac_laws.proofs.Checked.{is_checked}
use Rattle.psac_series.proofs.Outputs.{each_written}
use Rattle.psac_series.proofs.laws.outputs_are_written.Goals as goal

pub returns : goal.returns
returns c w g rule main whole even = each_written w g whole even (is_checked w rule main)
