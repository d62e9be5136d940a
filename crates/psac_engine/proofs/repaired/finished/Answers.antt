use Rattle.std.proofs.Common.{◌<◌, ap, subst, arith}
use Rattle.psac_readers.specs.Chained.{mods_of}
use Rattle.psac_stage.proofs.Begins.{time_in}
use Rattle.psac_stage.proofs.Settles.{settled_rested}
use Rattle.psac_engine.proofs.Dones.{came_all, came_fresh, came_owes, came_names, came_finished, came_repaired, came_reset, came_ages}
use Rattle.psac_model.specs.declared.ends.Work.{Work}
use Rattle.psac_values.specs.Steps.{made_handle}
use Rattle.psac_ops.specs.Named.{same_handle}
use Rattle.psac_traced.specs.Mending.{mended}
use Rattle.psac_record.specs.Kept.{bare, made_of, all_of}
use Rattle.psac_record.specs.Shown.{kept_of, rec_of}
use Rattle.psac_repair.specs.Taking.{taken}
use Rattle.psac_engine.proofs.Dones.{came_numbers}
use Rattle.psac_engine.proofs.Rising.{aged_rises, repair_ages}
use Rattle.psac_engine.proofs.repaired.finished.Goals as goal

pub reclaim-pass-requires-clause-sole : goal.reclaim-pass-requires-clause-sole
reclaim-pass-requires-clause-sole c =
    let r = settled_rested c.args.pass c.settled-pass.result c.settled-pass.ensures.settles in
    ((0, r.mods.counter), (0, r.links.counter), (0, r.nodes.counter))

pub reclaim-pass-requires-clause-values : goal.reclaim-pass-requires-clause-values
reclaim-pass-requires-clause-values c =
    let m = c.requires in
    let t = c.args.tables.now in
    let z = c.settled-pass.result in
    let e = c.settled-pass.ensures.settles in
    (came_owes m.0 m.1 m.2 m.3 m.4 t m.5 m.6 m.8 c.args.pass c.args.outcome m.9 z e c.in-Ok.tally c.in-Ok.is m.4
    (came_fresh m.0 m.1 m.2 m.3 m.4 t m.5 m.6 m.8 c.args.pass c.args.outcome m.9 z e m.7)).values

pub reclaim-pass-requires-clause-readers : goal.reclaim-pass-requires-clause-readers
reclaim-pass-requires-clause-readers c =
    let m = c.requires in
    let t = c.args.tables.now in
    let z = c.settled-pass.result in
    let e = c.settled-pass.ensures.settles in
    (came_owes m.0 m.1 m.2 m.3 m.4 t m.5 m.6 m.8 c.args.pass c.args.outcome m.9 z e c.in-Ok.tally c.in-Ok.is m.4
    (came_fresh m.0 m.1 m.2 m.3 m.4 t m.5 m.6 m.8 c.args.pass c.args.outcome m.9 z e m.7)).readers

pub reclaim-pass-requires-clause-marks : goal.reclaim-pass-requires-clause-marks
reclaim-pass-requires-clause-marks c =
    let m = c.requires in
    let t = c.args.tables.now in
    let z = c.settled-pass.result in
    let e = c.settled-pass.ensures.settles in
    (came_owes m.0 m.1 m.2 m.3 m.4 t m.5 m.6 m.8 c.args.pass c.args.outcome m.9 z e c.in-Ok.tally c.in-Ok.is m.4
    (came_fresh m.0 m.1 m.2 m.3 m.4 t m.5 m.6 m.8 c.args.pass c.args.outcome m.9 z e m.7)).marks

pub reclaim-pass-requires-clause-names : goal.reclaim-pass-requires-clause-names
reclaim-pass-requires-clause-names c x i =
    let m = c.requires in
    let t = c.args.tables.now in
    let z = c.settled-pass.result in
    let e = c.settled-pass.ensures.settles in
    came_names m.0 m.1 m.2 m.3 m.4 t m.5 m.6 m.8 c.args.pass c.args.outcome m.9 z e c.in-Ok.tally c.in-Ok.is m.4
    (came_fresh m.0 m.1 m.2 m.3 m.4 t m.5 m.6 m.8 c.args.pass c.args.outcome m.9 z e m.7) x i

pub reset-requires-clause-next_values : goal.reset-requires-clause-next_values
reset-requires-clause-next_values c n i =
    let m = c.requires in
    let y = (came_all m.0 m.1 m.2 m.3 m.4 c.args.tables.now m.5 m.6 m.8 c.args.pass c.args.outcome m.9 c.settled-pass.result
    c.settled-pass.ensures.settles).young_mods.out n i in
    let low = m.7 in
    omega (arith, y, low)

pub reset-requires-clause-next_marks : goal.reset-requires-clause-next_marks
reset-requires-clause-next_marks c n i =
    let m = c.requires in
    let y = (came_all m.0 m.1 m.2 m.3 m.4 c.args.tables.now m.5 m.6 m.8 c.args.pass c.args.outcome m.9 c.settled-pass.result
    c.settled-pass.ensures.settles).young_nodes.out n i in
    let low = m.7 in
    omega (arith, y, low)

pub reset-requires-clause-sets : goal.reset-requires-clause-sets
reset-requires-clause-sets c n low =
    let m = c.requires in
    let s = (came_all m.0 m.1 m.2 m.3 m.4 c.args.tables.now m.5 m.6 m.8 c.args.pass c.args.outcome m.9 c.settled-pass.result
    c.settled-pass.ensures.settles).sets in
    time_in n (mods_of c.settled-pass.result.readers.knows.walk) (s.all n (subst (λ x. n < x) s.mods_is low))

pub returns-in-Ok-clause-ends : goal.returns-in-Ok-clause-ends
returns-in-Ok-clause-ends c w g h caps age k p s came =
    let m = c.requires in
    let t = c.args.tables.now in
    let z = c.settled-pass.result in
    let e = c.settled-pass.ensures.settles in
    let r = c.reclaim-pass.ensures in
    let fresh = came_fresh m.0 m.1 m.2 m.3 m.4 t m.5 m.6 m.8 c.args.pass c.args.outcome m.9 z e m.7 in
    came_finished w g h caps age t k p s c.args.pass c.args.outcome came z e c.in-Ok.tally c.in-Ok.is m.4 fresh c.reclaim-pass.result r.of
    (record { values = r.values; readers = r.readers; marks = r.marks }) c.work.result c.work.ensures

pub returns-in-Err-clause-ends : goal.returns-in-Err-clause-ends
returns-in-Err-clause-ends c w g h caps age k p s came =
    let r = c.reset.ensures in
    came_reset w g h caps age c.args.tables.now k p s c.args.pass c.args.outcome came c.settled-pass.result c.settled-pass.ensures.settles
    c.in-Err.stop c.in-Err.is c.reset.result r.of r.values r.readers r.marks

pub returns-in-Ok-clause-repairs : goal.returns-in-Ok-clause-repairs
returns-in-Ok-clause-repairs c w g h caps age k p s came = λ is.
    let m = c.requires in
    let t = c.args.tables.now in
    let z = c.settled-pass.result in
    let e = c.settled-pass.ensures.settles in
    let r = c.reclaim-pass.ensures in
    let fresh = came_fresh m.0 m.1 m.2 m.3 m.4 t m.5 m.6 m.8 c.args.pass c.args.outcome m.9 z e m.7 in
    came_repaired w g h caps age t k p s c.args.pass c.args.outcome came z e c.in-Ok.tally c.in-Ok.is m.4 fresh c.reclaim-pass.result
    (record { values = r.values; readers = r.readers; marks = r.marks }) c.work.result c.work.ensures

pub returns-in-Ok-clause-ages : goal.returns-in-Ok-clause-ages
returns-in-Ok-clause-ages c w g h caps age k p s came =
    let m = c.requires in
    let t = c.args.tables.now in
    let z = c.settled-pass.result in
    let e = c.settled-pass.ensures.settles in
    let r = c.reclaim-pass.ensures in
    let v = c.reclaim-pass.result in
    let fresh = came_fresh m.0 m.1 m.2 m.3 m.4 t m.5 m.6 m.8 c.args.pass c.args.outcome m.9 z e m.7 in
    let rep = came_repaired w g h caps age t k p s c.args.pass c.args.outcome came z e c.in-Ok.tally c.in-Ok.is m.4 fresh v
    (record { values = r.values; readers = r.readers; marks = r.marks }) c.work.result c.work.ensures in
    let new = kept_of c.args.outcome.tree in
    let worked = c.work.ensures (mended same_handle (bare k) (rec_of c.args.outcome.tree))
    (came_numbers w h t k p c.args.pass c.args.outcome came c.in-Ok.tally c.in-Ok.is).0 in
    repair_ages p.values.knows.claims v.values.knows.claims c.work.result c.args.outcome.tree (ap (λ (x : Work). x.mode) worked)
    (aged_rises (made_handle p.values.knows.fixed) (all_of made_of (taken k new)) p.values.knows.claims v.values.knows.claims rep.0.mods)

pub returns-in-Err-clause-ages : goal.returns-in-Err-clause-ages
returns-in-Err-clause-ages c w g h caps age k p s came =
    let z = c.settled-pass.result in
    let e = c.settled-pass.ensures.settles in
    let v = c.reset.result in
    came_ages w g h caps age c.args.tables.now k p s c.args.pass c.args.outcome came z e c.in-Err.stop v c.reset.ensures.values
