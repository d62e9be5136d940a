use Rattle.std.proofs.Common.{◌≡◌, ◌++◌, drop, map}
use Rattle.psac_check.specs.Scopes.{dests_of}
use Rattle.psac_check.proofs.names.params_to_write.Given as goal

abbrev pub invariant-loop-name : goal.invariant-loop-name
invariant-loop-name l =
    dests_of l.dests.items ++ map (λ d. (d, l.func.line)) (drop l.name-index l.func.dests) ≡ map (λ d. (d, l.func.line)) l.func.dests
