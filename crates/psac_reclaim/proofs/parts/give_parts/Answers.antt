use Rattle.std.proofs.Common.{List, ◌∙◌, refl, sym, subst}
use Rattle.psac_record.specs.Dropped.{dropped_of}
use Rattle.psac_record.specs.Kept.{Kept, made_of, links_of}
use Rattle.psac_record.specs.Opened.{part_of}
use Rattle.psac_record.specs.Shown.{kept_of}
use Rattle.psac_reclaim.specs.Parts.{nodes_of, in_all}
use Rattle.psac_reclaim.specs.Gave.{ValuesGave, MarksGave}
use Rattle.psac_reclaim.specs.Going.{ValuesGoing, ReadersGoing, MarksGoing}
use Rattle.psac_reclaim.proofs.Giving.{values_none, marks_none}
use Rattle.psac_reclaim.proofs.Cleaning.{same_sets, same_then}
use Rattle.psac_reclaim.proofs.Parted.{parted_lists}
use Rattle.psac_reclaim.proofs.Ahead.{made_may, node_may, links_may, values_next, marks_next, readers_next, values_onward, marks_onward}
use Rattle.psac_reclaim.proofs.parts.give_parts.Goals as goal

pub loop-part-init : goal.loop-part-init
loop-part-init c =
    let r = c.requires in
    record {
      table_values = refl;
      table_readers = refl;
      table_marks = refl;
      values = r.values;
      readers = r.readers;
      marks = r.marks;
      gave_values = λ w g. g;
      same = same_sets c.args.readers.now.knows r.readers.begun;
      gave_marks = λ w g. g;
    }

pub give_part-requires-clause-made : goal.give_part-requires-clause-made
give_part-requires-clause-made c =
    let p = parted_lists (dropped_of c.loop-part.dropped) (part_of c.in-Some.part) (dropped_of c.take_part.new.self) c.in-Some.ensures.first in
    made_may (kept_of c.args._tree.now) (dropped_of c.loop-part.dropped) (part_of c.in-Some.part) (dropped_of c.take_part.new.self) p c.loop-part.values.knows c.loop-part.invariant.values

pub give_part-requires-clause-node : goal.give_part-requires-clause-node
give_part-requires-clause-node c =
    let p = parted_lists (dropped_of c.loop-part.dropped) (part_of c.in-Some.part) (dropped_of c.take_part.new.self) c.in-Some.ensures.first in
    node_may (kept_of c.args._tree.now) (dropped_of c.loop-part.dropped) (part_of c.in-Some.part) (dropped_of c.take_part.new.self) p c.loop-part.marks.knows c.loop-part.invariant.marks

pub give_part-requires-clause-reads : goal.give_part-requires-clause-reads
give_part-requires-clause-reads c =
    let p = parted_lists (dropped_of c.loop-part.dropped) (part_of c.in-Some.part) (dropped_of c.take_part.new.self) c.in-Some.ensures.first in
    links_may (kept_of c.args._tree.now) (dropped_of c.loop-part.dropped) (part_of c.in-Some.part) (dropped_of c.take_part.new.self) p c.loop-part.readers.knows c.loop-part.invariant.readers

pub loop-part-smaller : goal.loop-part-smaller
loop-part-smaller c = (parted_lists (dropped_of c.loop-part.dropped) (part_of c.in-Some.part) (dropped_of c.take_part.new.self) c.in-Some.ensures.first).fewer c.in-Some.ensures.whole

pub loop-part-preserved : goal.loop-part-preserved
loop-part-preserved c =
    let p = parted_lists (dropped_of c.loop-part.dropped) (part_of c.in-Some.part) (dropped_of c.take_part.new.self) c.in-Some.ensures.first in
    let i = c.loop-part.invariant in
    let g = c.give_part.ensures in
    let t = kept_of c.args._tree.now in
    let ks = dropped_of c.loop-part.dropped in
    let k = part_of c.in-Some.part in
    let rest = dropped_of c.take_part.new.self in
    record {
      table_values = g.of.0 ∙ i.table_values;
      table_readers = g.of.1 ∙ i.table_readers;
      table_marks = g.of.2 ∙ i.table_marks;
      values = values_next t ks k rest p c.loop-part.values.knows c.give_part.new.values.knows i.values g.values;
      readers = readers_next t ks k rest p c.loop-part.readers.knows c.give_part.new.readers.knows i.readers g.readers;
      marks = marks_next t ks k rest p c.loop-part.marks.knows c.give_part.new.marks.knows i.marks g.marks;
      gave_values = λ w d. i.gave_values w (values_onward t ks k rest p c.loop-part.values.knows c.give_part.new.values.knows w g.values d);
      same = same_then c.args.readers.now.knows c.loop-part.readers.knows c.give_part.new.readers.knows i.same g.readers.same;
      gave_marks = λ w d. i.gave_marks w (marks_onward t ks k rest p c.loop-part.marks.knows c.give_part.new.marks.knows w g.marks d);
    }

pub returns-clause-values : goal.returns-clause-values
returns-clause-values c = c.loop-part.invariant.gave_values c.loop-part.values.knows (subst (λ (z : List Kept). ValuesGave (in_all made_of z) c.loop-part.values.knows c.loop-part.values.knows) (sym c.in_default.ensures.first.0) (values_none c.loop-part.values.knows c.loop-part.invariant.values.begun))

pub returns-clause-marks : goal.returns-clause-marks
returns-clause-marks c = c.loop-part.invariant.gave_marks c.loop-part.marks.knows (subst (λ (z : List Kept). MarksGave (in_all nodes_of z) c.loop-part.marks.knows c.loop-part.marks.knows) (sym c.in_default.ensures.first.0) (marks_none c.loop-part.marks.knows c.loop-part.invariant.marks.begun))

pub returns-clause-values_left : goal.returns-clause-values_left
returns-clause-values_left c = subst (λ (z : List Kept). ValuesGoing (made_of (kept_of c.args._tree.now)) (in_all made_of z) c.loop-part.values.knows) c.in_default.ensures.first.0 c.loop-part.invariant.values

pub returns-clause-readers_left : goal.returns-clause-readers_left
returns-clause-readers_left c = subst (λ (z : List Kept). ReadersGoing (links_of (kept_of c.args._tree.now)) (in_all links_of z) c.loop-part.readers.knows) c.in_default.ensures.first.0 c.loop-part.invariant.readers

pub returns-clause-marks_left : goal.returns-clause-marks_left
returns-clause-marks_left c = subst (λ (z : List Kept). MarksGoing (nodes_of (kept_of c.args._tree.now)) (in_all nodes_of z) c.loop-part.marks.knows) c.in_default.ensures.first.0 c.loop-part.invariant.marks
