use Rattle.std.proofs.Common.{◌≡◌, drop, map}
use Rattle.psac_model.specs.Expression.{in_order}
use Rattle.psac_model.specs.Run.{read_of}
use Rattle.psac_plain.specs.Slots.{env_of, setting_by, after_those, slots}
use Rattle.psac_plain.specs.Running.{reads_view, places_of}
use Rattle.psac_plain.proofs.ask.reads_of.Given as goal

abbrev pub invariant-loop-item : goal.invariant-loop-item
invariant-loop-item l =
    let read_at = read_of slots (setting_by l.opening) (env_of l.env) (places_of l.heap) in
    after_those (reads_view l.all.items) (in_order (map read_at (drop l.item-index l.items))) ≡ in_order (map read_at l.items)
