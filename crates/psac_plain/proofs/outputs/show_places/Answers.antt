use Rattle.std.proofs.Common.{◌≡◌, ◌+◌, ◌++◌, ◌∷◌, [], ◌∙◌, ap, sym, drop, arith, append_assoc}
use Rattle.psac_plain.specs.Running.{places_of}
use Rattle.psac_plain.specs.Opened.{place_shown, places_shown}
use Rattle.psac_plain.proofs.Pushed.{shown_next}
use Rattle.psac_plain.proofs.outputs.show_places.Goals as goal

pub loop-i-preserved : goal.loop-i-preserved
loop-i-preserved c =
    let places = places_of c.args.heap.now in
    let k = c.args.first + c.loop-i.i in
    let e : c.args.first + (c.loop-i.i + 1) ≡ k + 1 = omega arith in
    rw (c.in_ok-push.ensures.items, e, c.show_place.ensures)
    (append_assoc c.loop-i.all.items (place_shown places k ∷ []) (places_shown places (k + 1) (drop (c.loop-i.i + 1) c.args.dests.now)) ∙ ap (λ x. c.loop-i.all.items ++ x) (sym (shown_next places k c.loop-i.i c.args.dests.now c.loop-i-test.true)) ∙ c.loop-i.invariant)
