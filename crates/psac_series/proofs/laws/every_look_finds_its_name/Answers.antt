use Rattle.psac_laws.proofs.Checked.{is_checked}
use Rattle.psac_series.proofs.Found.{finds_each}
use Rattle.psac_series.proofs.laws.every_look_finds_its_name.Goals as goal

pub returns : goal.returns
returns c w g rule main whole even = finds_each w g whole even (is_checked w rule main)
