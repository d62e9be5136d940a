use Rattle.std.proofs.Common.{refl}
use Rattle.psac_trace.proofs.Reading.{node_opens, node_halts}
use Rattle.psac_trace.proofs.nodes.stepped.Goals as goal

pub returns-in-Ok-clause-ok : goal.returns-in-Ok-clause-ok
returns-in-Ok-clause-ok c =
    let k = c.in-Ok.ensures in
    node_opens c.args.tables.now c.args.pass _ c.requires.of c.requires.tidy c.requires.fit c.requires.room (record { table = k.table; values = refl; readers = refl }) c.in-Ok.node c.args.parent c.requires.parent k.ok k.new k.room k.kept

pub returns-in-Err-clause-err : goal.returns-in-Err-clause-err
returns-in-Err-clause-err c = λ h.
    let k = c.in-Err.ensures in
    node_halts c.args.tables.now c.args.pass _ c.requires.of c.requires.tidy c.requires.fit c.requires.room (record { table = k.table; values = refl; readers = refl }) h c.args.parent c.in-Err.full k.full.0 k.full.1 k.full.2
