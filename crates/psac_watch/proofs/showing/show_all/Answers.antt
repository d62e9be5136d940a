use Rattle.psac_watch.proofs.Growing.{at_some, none_shown, shown_on}
use Rattle.psac_watch.proofs.showing.show_all.Goals as goal
use Rattle.psac_watch.proofs.showing.show_all.Goals.{in-None, in-Some+then-over}

pub loop-init : goal.loop-init
loop-init g c = (none_shown _ _ _, tt)

pub loop-preserved : goal.loop-preserved
loop-preserved g c =
    (shown_on _ _ _ _ _ _ _ c.loop.invariant.0 c.show_new-last.ensures.shown, at_some _ _ (c.show_new-last.ensures.latest c.loop.invariant.1))

pub returns-clause-shown : goal.returns-clause-shown
returns-clause-shown g c = elim c.match-next.branch [
  | in-None w ↦ rw (w.last-is, w.eye-is) c.loop.invariant.0
  | in-Some+then-over w ↦ rw (w.last-is, w.eye-is) (shown_on _ _ _ _ _ _ _ c.loop.invariant.0 w.show_new-last.ensures.shown)
]

pub returns-clause-latest : goal.returns-clause-latest
returns-clause-latest g c = elim c.match-next.branch [
  | in-None w ↦ rw (w.last-is, w.observer-is) c.loop.invariant.1
  | in-Some+then-over w ↦ rw (w.last-is, w.observer-is) (at_some _ _ (w.show_new-last.ensures.latest c.loop.invariant.1))
]
