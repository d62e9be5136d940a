use Rattle.std.proofs.Common.{rules, []}
use Rattle.psac_inputs.specs.Batch.{empty_batch}
use Rattle.psac_engine.specs.Engine.{grid_in}
use Rattle.psac_session.proofs.Goes.{held_go}
use Rattle.psac_session.proofs.Placing.{kind_refused, part_held, part_known, source_unread}
use Rattle.psac_session.proofs.hold.hold_part.Goals as goal

pub returns-in-Some-clause-step : goal.returns-in-Some-clause-step
returns-in-Some-clause-step c = λ b texts.
    let v = c.value_at.ensures in
    rw c.put.ensures
    (part_held c.args.engine.now c.value_at.new.engine v.kept v.grid v.handles v.named c.args.places.now.held
    c.requires c.args.part c.args.place c.args.source
    c.has.result c.has-else-not-has.result c.has.ensures c.has-else-not-has.ensures (search rules) (search rules) b
    texts c.in-Ok.value c.in-Some.handle (c.in-Ok.ensures.read b texts) (search rules))

pub returns-in-Some-clause-held : goal.returns-in-Some-clause-held
returns-in-Some-clause-held c =
    let v = c.value_at.ensures in
    let b = empty_batch (grid_in c.args.engine.now) in
    rw c.put.ensures
    (part_known c.args.engine.now c.value_at.new.engine v.kept v.grid v.handles v.named c.args.places.now.held
    c.requires c.args.part c.args.place c.args.source
    c.has.result c.has-else-not-has.result c.has.ensures c.has-else-not-has.ensures (search rules) (search rules) b []
    c.in-Ok.value c.in-Some.handle (c.in-Ok.ensures.read b []) (search rules)
    (held_go c.args.engine.now c.value_at.new.engine _ v.handles v.named c.args.places.now.held c.requires))

pub returns-in-None-clause-step : goal.returns-in-None-clause-step
returns-in-None-clause-step c = λ b texts.
    let v = c.value_at.ensures in
    kind_refused c.args.engine.now c.value_at.new.engine v.kept v.grid v.handles v.named c.args.places.now.held
    c.requires c.args.part c.args.place c.args.source
    c.has.result c.has-else-not-has.result c.has.ensures c.has-else-not-has.ensures (search rules) (search rules) b
    texts c.in-Ok.value (c.in-Ok.ensures.read b texts) (search rules)

pub returns-in-None-clause-held : goal.returns-in-None-clause-held
returns-in-None-clause-held c =
    held_go c.args.engine.now c.value_at.new.engine _ c.value_at.ensures.handles c.value_at.ensures.named
    c.args.places.now.held c.requires

pub returns-in-Err-clause-step : goal.returns-in-Err-clause-step
returns-in-Err-clause-step c = λ b texts.
    let v = c.value_at.ensures in
    source_unread c.args.engine.now c.value_at.new.engine v.kept v.grid v.handles v.named c.args.places.now.held
    c.requires c.args.part c.args.place c.args.source
    c.has.result c.has-else-not-has.result c.has.ensures c.has-else-not-has.ensures (search rules) (search rules) b
    texts c.in-Err.reply (c.in-Err.ensures.read b texts)

pub returns-in-Err-clause-held : goal.returns-in-Err-clause-held
returns-in-Err-clause-held c =
    held_go c.args.engine.now c.value_at.new.engine _ c.value_at.ensures.handles c.value_at.ensures.named
    c.args.places.now.held c.requires
