use Rattle.std.proofs.Common.{None}
use Rattle.psac_publish.specs.History.{last_commit}
use Rattle.psac_watch.specs.Showed.{IsAt, Showed}
use Rattle.psac_watch.proofs.showing.show_all.Given as goal

abbrev pub invariant-loop : goal.invariant-loop
invariant-loop g l =
    Showed g.N.SeenName.course None l.last (g.E.Eye.shown l.initial.eye) (g.E.Eye.shown l.eye) × IsAt l.last (last_commit l.observer)
