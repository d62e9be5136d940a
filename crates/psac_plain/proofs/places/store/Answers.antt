use Rattle.std.proofs.Common.{Some}
use Rattle.std.proofs.lemmas.List.{map-set}
use Rattle.psac_plain.specs.Slots.{map_plain}
use Rattle.psac_plain.proofs.places.store.Goals as goal

pub returns-then-slot-len : goal.returns-then-slot-len
returns-then-slot-len c = map-set map_plain c.args.heap.now.items c.args.h.slot (Some c.args.v)
