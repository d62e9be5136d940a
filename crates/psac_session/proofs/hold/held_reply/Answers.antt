use Rattle.std.proofs.Common.{rules, ap, ◌∙◌}
use Rattle.psac_report.specs.Session.{Holds}
use Rattle.psac_engine.specs.Held.{names_in}
use Rattle.psac_session.specs.Handles.{state_of}
use Rattle.psac_session.proofs.Goes.{held_go, state_goes}
use Rattle.psac_session.proofs.Placing.{error_told, held_is, value_told}
use Rattle.psac_session.proofs.hold.held_reply.Goals as goal

pub returns-in-Ok-clause-told : goal.returns-in-Ok-clause-told
returns-in-Ok-clause-told c = λ b texts.
    let e = c.args.engine.now in
    held_is c.args.place c.has.result (state_of e b texts c.args.places.now.held) _ (search rules) (search rules)
    (ap (Holds c.args.place) c.show.ensures ∙ value_told (names_in e) c.args.place c.in-Ok.value _
    (c.in-Ok.ensures.read b texts))

pub returns-in-Ok-clause-same : goal.returns-in-Ok-clause-same
returns-in-Ok-clause-same c = λ b texts.
    let v = c.value_at.ensures in
    state_goes c.args.engine.now c.value_at.new.engine b texts c.args.places.now.held v.kept v.grid v.handles v.named
    (search rules)

pub returns-in-Ok-clause-held : goal.returns-in-Ok-clause-held
returns-in-Ok-clause-held c =
    held_go c.args.engine.now c.value_at.new.engine _ c.value_at.ensures.handles c.value_at.ensures.named
    c.args.places.now.held (search rules)

pub returns-in-Err-clause-told : goal.returns-in-Err-clause-told
returns-in-Err-clause-told c = λ b texts.
    let e = c.args.engine.now in
    held_is c.args.place c.has.result (state_of e b texts c.args.places.now.held) _ (search rules) (search rules)
    (error_told (names_in e) c.args.place c.in-Err.reply _ (c.in-Err.ensures.read b texts))

pub returns-in-Err-clause-same : goal.returns-in-Err-clause-same
returns-in-Err-clause-same c = λ b texts.
    let v = c.value_at.ensures in
    state_goes c.args.engine.now c.value_at.new.engine b texts c.args.places.now.held v.kept v.grid v.handles v.named
    (search rules)

pub returns-in-Err-clause-held : goal.returns-in-Err-clause-held
returns-in-Err-clause-held c =
    held_go c.args.engine.now c.value_at.new.engine _ c.value_at.ensures.handles c.value_at.ensures.named
    c.args.places.now.held (search rules)
