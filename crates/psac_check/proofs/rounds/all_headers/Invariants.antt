use Rattle.std.proofs.Common.{◌≡◌, [], map, take, drop}
use Rattle.psac_model.specs.Series.{headers}
use Rattle.psac_check.proofs.rounds.all_headers.Given as goal

abbrev pub invariant-loop-i : goal.invariant-loop-i
invariant-loop-i l = headers (map (λ f. f.name) (take l.i l.funcs)) (drop l.i l.funcs) ≡ headers [] l.funcs
