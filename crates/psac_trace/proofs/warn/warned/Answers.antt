use Rattle.std.proofs.Common.{refl, ◌∙◌}
use Rattle.psac_trace.proofs.Rousing.{rouse_none, rouse_looked, rouse_raised}
use Rattle.psac_trace.proofs.warn.warned.Goals as goal

pub returns-then-not-is_among : goal.returns-then-not-is_among
returns-then-not-is_among c = rouse_none c.args.tables.now c.args.olds.now c.args.m c.args.words c.args.pass c.args.pass c.requires.of (c.if-not-is_among.ensures.no refl)

pub returns-then-is_same : goal.returns-then-is_same
returns-then-is_same c =
    let k = c.read-before.ensures in
    rouse_looked c.args.tables.now c.args.olds.now c.args.m c.args.words c.args.pass _ c.requires.of (record { table = k.table; readers = refl; marks = refl }) c.read-before.result k.words k.looks (c.if-is_same.ensures.yes refl)

pub returns : goal.returns
returns c =
    let k = c.read-before.ensures in
    let r = c.raise_readers.ensures in
    let of = c.requires.of in
    rouse_raised c.args.tables.now c.args.olds.now c.args.m c.args.words c.args.pass _ of c.read-before.result k.words k.looks (k.table ∙ of.0, r.of.0 ∙ of.1, r.of.1 ∙ of.2) r.sets.0 r.sets.1 r.raised (c.if-not-is_among.ensures.yes refl) (c.if-is_same.ensures.no refl) (c.if-is_same.ensures.other refl)
