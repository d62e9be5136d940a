use Rattle.std.proofs.Common.{◌≡◌, subst, sym}
use Rattle.psac_publish.specs.History.{IsOf, Reached}
use Rattle.psac_publish.proofs.Fronts.{more_of}
use Rattle.psac_publish.proofs.publisher.Published.publish.Goals as goal

pub publish_as-writer-requires : goal.publish_as-writer-requires
publish_as-writer-requires g c next is views kept at =
    let same : next ≡ c.in-Some.front = rw (c.in-Ok.ensures.pending, c.self.invariant.1) at is in
    let is_of : Reached → Type 0 = IsOf g.N.SeenName.book g.N.SeenName.course in
    let more = more_of g.N.SeenName.book g.N.SeenName.course c.self.inside.writer.desk.shown.value c.args.seen c.self.invariant.2 c.requires.fits in
    let of : is_of next = subst is_of (sym same) (subst is_of (sym c.in-Some.ensures) (rw (← c.published.ensures) at more)) in
    (tt, of, of)
