use Rattle.std.proofs.Common.{◌≡◌, drop, map}
use Rattle.psac_model.specs.Series.{has}
use Rattle.psac_check.proofs.rounds.is_named.Given as goal

abbrev pub invariant-loop-func : goal.invariant-loop-func
invariant-loop-func l = has l.name (map (λ f. f.name) (drop l.func-index l.earlier)) ≡ has l.name (map (λ f. f.name) l.earlier)
