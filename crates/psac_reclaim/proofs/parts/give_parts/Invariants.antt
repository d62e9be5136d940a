use Rattle.std.proofs.Common.{◌≡◌}
use Rattle.psac_values.specs.declared.view.ValueView.{ValueView}
use Rattle.psac_marks.specs.declared.view.MarksView.{MarksView}
use Rattle.psac_record.specs.Dropped.{dropped_of}
use Rattle.psac_record.specs.Kept.{made_of, links_of, parts_of_all}
use Rattle.psac_record.specs.Shown.{kept_of}
use Rattle.psac_reclaim.specs.Parts.{nodes_of, in_all}
use Rattle.psac_reclaim.specs.Gave.{ValuesGave, MarksGave, SameSets}
use Rattle.psac_reclaim.specs.Going.{ValuesGoing, ReadersGoing, MarksGoing}
use Rattle.psac_reclaim.proofs.parts.give_parts.Given as goal

abbrev pub invariant-loop-part : goal.invariant-loop-part
invariant-loop-part l = record {
  table_values : l.values.table ≡ l.fn.values.table;
  table_readers : l.readers.table ≡ l.fn.readers.table;
  table_marks : l.marks.table ≡ l.fn.marks.table;
  values : ValuesGoing (made_of (kept_of l._tree)) (in_all made_of (dropped_of l.dropped)) l.values.knows;
  readers : ReadersGoing (links_of (kept_of l._tree)) (in_all links_of (dropped_of l.dropped)) l.readers.knows;
  marks : MarksGoing (nodes_of (kept_of l._tree)) (in_all nodes_of (dropped_of l.dropped)) l.marks.knows;
  gave_values : (w : ValueView) → ValuesGave (in_all made_of (dropped_of l.dropped)) l.values.knows w → ValuesGave (in_all made_of (dropped_of l.fn.dropped)) l.fn.values.knows w;
  same : SameSets l.fn.readers.knows l.readers.knows;
  gave_marks : (w : MarksView) → MarksGave (in_all nodes_of (dropped_of l.dropped)) l.marks.knows w → MarksGave (in_all nodes_of (dropped_of l.fn.dropped)) l.fn.marks.knows w;
}

abbrev pub decreases-loop-part : goal.decreases-loop-part
decreases-loop-part l = parts_of_all (dropped_of l.dropped)
