use Rattle.std.proofs.Common.{◌≡◌, drop, map}
use Rattle.psac_model.specs.Expression.{in_order}
use Rattle.psac_plain.specs.Slots.{env_of, setting_by, after_those}
use Rattle.psac_trace.specs.Asking.{source, sources_in}
use Rattle.psac_trace.proofs.ask.sources_of.Given as goal

abbrev pub invariant-loop-item : goal.invariant-loop-item
invariant-loop-item l =
    let at = source (setting_by l.opening) (env_of l.env) in
    after_those (sources_in l.all.items) (in_order (map at (drop l.item-index l.items))) ≡ in_order (map at l.items)
