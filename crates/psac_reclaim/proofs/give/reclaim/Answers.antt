use Rattle.std.proofs.Common.{sym, subst}
use Rattle.psac_slots.specs.Claiming as claiming
use Rattle.psac_values.specs.declared.view.ValueView.{ValueView}
use Rattle.psac_marks.specs.declared.view.MarksView.{MarksView}
use Rattle.psac_readers.specs.declared.view.ReadersView.{ReadersView}
use Rattle.psac_readers.specs.Steps as readers
use Rattle.psac_marks.specs.Steps as marks
use Rattle.psac_record.specs.Dropped.{dropped_of}
use Rattle.psac_record.specs.Kept.{made_of, links_of}
use Rattle.psac_record.specs.Shown.{kept_of}
use Rattle.psac_reclaim.specs.Parts.{nodes_of, in_all}
use Rattle.psac_reclaim.specs.Gave.{ValuesGave, MarksGave, SameSets}
use Rattle.psac_reclaim.specs.Owed.{ValuesLeft, ReadersLeft, MarksLeft}
use Rattle.psac_reclaim.proofs.Steps.{values_start, readers_start, marks_start}
use Rattle.psac_reclaim.proofs.Ending.{stand_left, values_end, readers_left, marks_end}
use Rattle.psac_reclaim.proofs.give.reclaim.Goals as goal

pub give_parts-requires-clause-values : goal.give_parts-requires-clause-values
give_parts-requires-clause-values c = values_start (made_of (kept_of c.args._tree.now)) (in_all made_of (dropped_of c.args.dropped)) c.args.pass.values.knows c.rewind.new.pass.knows c.requires.values c.rewind.ensures.rewound c.rewind.ensures.whole

pub give_parts-requires-clause-readers : goal.give_parts-requires-clause-readers
give_parts-requires-clause-readers c = readers_start (links_of (kept_of c.args._tree.now)) (in_all links_of (dropped_of c.args.dropped)) c.args.pass.readers.knows c.rewind-2.new.pass.knows c.requires.readers c.rewind-2.ensures.rewound c.rewind-2.ensures.once c.rewind-2.ensures.holds c.rewind-2.ensures.whole

pub give_parts-requires-clause-marks : goal.give_parts-requires-clause-marks
give_parts-requires-clause-marks c = marks_start (nodes_of (kept_of c.args._tree.now)) (in_all nodes_of (dropped_of c.args.dropped)) c.args.pass.marks.knows c.rewind-3.new.pass.knows c.requires.marks c.rewind-3.ensures.rewound c.rewind-3.ensures.holds

left_values : goal.returns-clause-values
left_values c =
    let kept = made_of (kept_of c.args._tree.now) in
    let gone = in_all made_of (dropped_of c.args.dropped) in
    let v = c.args.pass.values.knows in
    let u = c.give_parts.new.values.knows in
    let e = c.rewind-4.ensures.rewound in
    let d = subst (λ (x : ValueView). ValuesGave gone x u) c.rewind.ensures.rewound c.give_parts.ensures.values in
    let a = subst (λ (x : ValueView). claiming.Accounted x.claims) e c.rewind-4.ensures.whole in
    subst (λ (w : ValueView). ValuesLeft kept gone v w) (sym e) (values_end kept gone v u d c.give_parts.ensures.values_left a)

left_links : goal.returns-clause-readers
left_links c =
    let kept = links_of (kept_of c.args._tree.now) in
    let v = c.args.pass.readers.knows in
    let u = c.give_parts.new.readers.knows in
    let e = c.rewind-5.ensures.rewound in
    let d = subst (λ (x : ReadersView). SameSets x u) c.rewind-2.ensures.rewound c.give_parts.ensures.readers in
    let a = subst (λ (x : ReadersView). claiming.Accounted x.claims) e c.rewind-5.ensures.whole in
    let h = subst (λ (x : ReadersView). readers.Holds x) e c.rewind-5.ensures.holds in
    subst (λ (w : ReadersView). ReadersLeft kept v w) (sym e) (readers_left kept v u d c.give_parts.ensures.readers_left h a)

pub returns-clause-values : goal.returns-clause-values
returns-clause-values c = left_values c

pub returns-clause-readers : goal.returns-clause-readers
returns-clause-readers c = left_links c

pub returns-clause-marks : goal.returns-clause-marks
returns-clause-marks c =
    let kept = nodes_of (kept_of c.args._tree.now) in
    let gone = in_all nodes_of (dropped_of c.args.dropped) in
    let v = c.args.pass.marks.knows in
    let u = c.give_parts.new.marks.knows in
    let e = c.rewind-6.ensures.rewound in
    let d = subst (λ (x : MarksView). MarksGave gone x u) c.rewind-3.ensures.rewound c.give_parts.ensures.marks in
    let a = subst (λ (x : MarksView). claiming.Accounted x.claims) e c.rewind-6.ensures.whole in
    let h = subst (λ (x : MarksView). marks.Holds x) e c.rewind-6.ensures.holds in
    subst (λ (w : MarksView). MarksLeft kept gone v w) (sym e) (marks_end kept gone v u d c.give_parts.ensures.marks_left h a)

pub returns-clause-unnamed : goal.returns-clause-unnamed
returns-clause-unnamed c = stand_left (made_of (kept_of c.args._tree.now)) (in_all made_of (dropped_of c.args.dropped)) (links_of (kept_of c.args._tree.now)) c.args.pass.values.knows c.rewind-4.new.pass.knows c.args.pass.readers.knows c.rewind-5.new.pass.knows (left_values c) (left_links c) c.requires.names
