use Rattle.std.proofs.Common.{rules}
use Rattle.std.proofs.lemmas.List.{take-map}
use Rattle.psac_check.proofs.names.Scope.leave.Goals as goal

pub returns : goal.returns
returns c = search (rules, take-map)
