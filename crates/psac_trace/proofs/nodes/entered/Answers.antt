use Rattle.std.proofs.Common.{refl}
use Rattle.psac_trace.proofs.Reading.{link_opens, link_halts}
use Rattle.psac_trace.proofs.nodes.entered.Goals as goal

pub returns-in-Ok-clause-ok : goal.returns-in-Ok-clause-ok
returns-in-Ok-clause-ok c =
    let k = c.in-Ok.ensures in
    link_opens c.args.tables.now c.args.pass _ c.requires.of c.requires.tidy c.requires.fit c.requires.room (record { table = k.table; values = refl; marks = refl }) (record { link = c.in-Ok.link; of = c.args.from; node = c.args.node }) k.ok k.new k.has k.room

pub returns-in-Err-clause-err : goal.returns-in-Err-clause-err
returns-in-Err-clause-err c = λ l.
    let k = c.in-Err.ensures in
    link_halts c.args.tables.now c.args.pass _ c.requires.of c.requires.tidy c.requires.fit c.requires.room (record { table = k.table; values = refl; marks = refl }) (record { link = l; of = c.args.from; node = c.args.node }) c.in-Err.full k.full.0 k.full.1 k.full.2
