-- What a pass shares isn't its own.
use Rattle.std.specs.Prelude.{◌≢◌}
use Rattle.psac_slots.specs.Handles.{Member}
use Rattle.psac_marks.specs.declared.view.OwnView.{OwnView}
use Rattle.psac_marks.specs.declared.view.SharedView.{SharedView}
use Rattle.psac_marks.specs.declared.view.MarksView.{MarksView}

-- no node is both the pass's own and shared
abbrev pub Unshared : MarksView → Type 0
Unshared m = (o : OwnView) (e : SharedView) → Member o m.own → Member e m.shared → o.node.slot ≢ e.node.slot
