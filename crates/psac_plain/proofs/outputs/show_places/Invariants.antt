use Rattle.std.proofs.Common.{◌≡◌, ◌++◌, ◌+◌, drop}
use Rattle.psac_plain.specs.Running.{places_of}
use Rattle.psac_plain.specs.Opened.{places_shown}
use Rattle.psac_plain.proofs.outputs.show_places.Given as goal

abbrev pub invariant-loop-i : goal.invariant-loop-i
invariant-loop-i l =
    l.all.items ++ places_shown (places_of l.heap) (l.first + l.i) (drop l.i l.dests) ≡ places_shown (places_of l.heap) l.first l.dests
