-- Which nodes of a record are marked, and how they stand in a pass.
use Rattle.std.specs.Prelude.{◌≡◌, ◌⊎◌, ◌<◌, Option, Some}
use Rattle.psac_ops.specs.declared.plain.Handle.{Handle}
use Rattle.psac_ops.specs.Value.{Value}
use Rattle.psac_slots.specs.Handles.{Member}
use Rattle.psac_slots.specs.Claiming.{times}
use Rattle.psac_values.specs.declared.view.ValueView.{ValueView}
use Rattle.psac_marks.specs.declared.view.MarksView.{MarksView}
use Rattle.psac_marks.specs.Passes.{IsKept, slot_of}
use Rattle.psac_traced.specs.Holds.{EachOf}
use Rattle.psac_trace.specs.Rights.{Sees}
use Rattle.psac_record.specs.Kept.{Kept, E, A, W, S, P, R, reads_of}

-- where the pass knows the modifiable, this is its value
abbrev pub Present : ValueView → Handle → Value Handle → Type 0
Present v m x = (y : Value Handle) → Sees v m y → x ≡ y

abbrev pub IsMarked : MarksView → Handle → Type 0
IsMarked m h = 0 < times h.slot m.marked

-- the node is the pass's own, below this one, and isn't dropped
abbrev pub Sits : MarksView → Option Handle → Handle → Type 0
Sits m above h = Member (record { node = h; parent = slot_of above }) m.own × IsKept m h.slot

-- each node of the record
abbrev pub EachNode : (Option Handle → Handle → Type 0) → Option Handle → Kept → Type 0
EachNode Q above E = Unit {0}
EachNode Q above (A m r) = EachNode Q above r
EachNode Q above (W m v r) = EachNode Q above r
EachNode Q above (S n t r) = Q above n × EachNode Q (Some n) t × EachNode Q (Some n) r
EachNode Q above (P n l r) = Q above n × EachNode Q (Some n) l × EachNode Q (Some n) r
EachNode Q above (R b t) = Q above b.node × EachNode Q (Some b.node) t

abbrev pub Nodes : MarksView → Option Handle → Kept → Type 0
Nodes m = EachNode (Sits m)

-- a block that read other words than are present is marked
abbrev pub Up : ValueView → MarksView → Kept → Type 0
Up v m E = Unit {0}
Up v m (A h r) = Up v m r
Up v m (W h x r) = Up v m r
Up v m (S n t r) = Up v m t × Up v m r
Up v m (P n l r) = Up v m l × Up v m r
Up v m (R b t) = (EachOf (Present v) (reads_of b.reads) ⊎ IsMarked m b.node) × Up v m t

-- no node is marked
abbrev pub Unmarked : MarksView → Option Handle → Kept → Type 0
Unmarked m = EachNode (λ over h. times h.slot m.marked ≡ 0)
