use Rattle.std.proofs.Common.{◌≡◌, drop, map}
use Rattle.psac_model.specs.Series.{has, Dest}
use Rattle.psac_check.specs.Scopes.{dests_of}
use Rattle.psac_check.proofs.names.is_among.Given as goal

abbrev pub invariant-loop-dest : goal.invariant-loop-dest
invariant-loop-dest l =
    has l.name (map (λ (d : Dest). d.0) (dests_of (drop l.dest-index l.dests))) ≡ has l.name (map (λ (d : Dest). d.0) (dests_of l.dests))
