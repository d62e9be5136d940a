use Rattle.std.proofs.Common.{◌≡◌, drop}
use Rattle.psac_model.specs.Series.{all_in}
use Rattle.psac_check.proofs.sides.is_within.Given as goal

abbrev pub invariant-loop-name : goal.invariant-loop-name
invariant-loop-name l = all_in (drop l.name-index l.names) l.others ≡ all_in l.names l.others
