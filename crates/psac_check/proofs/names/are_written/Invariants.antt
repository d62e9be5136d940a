use Rattle.std.proofs.Common.{◌≡◌, drop, Result, Ok}
use Rattle.psac_model.specs.Series.{all_written, Fault}
use Rattle.psac_check.specs.Scopes.{dests_of}
use Rattle.psac_check.proofs.names.are_written.Given as goal

abbrev pub invariant-loop-dest : goal.invariant-loop-dest
invariant-loop-dest l =
    let done : Result (Unit {0}) Fault = Ok tt in
    all_written (dests_of (drop l.dest-index l.dests)) l.written done ≡ all_written (dests_of l.dests) l.written done
