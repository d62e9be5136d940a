use Rattle.std.proofs.Common.{refl}
use Rattle.psac_engine.specs.Engine.{kept_in, world_in}
use Rattle.psac_session.proofs.Goes.{held_go, state_goes}
use Rattle.psac_session.proofs.Stepped.{ok_then, show_step}
use Rattle.psac_session.proofs.desk.Desk.show.Goals as goal

pub returns-clause-step : goal.returns-clause-step
returns-clause-step c =
    let old = c.args.engine.now in
    let new = c.shown_reply-reply.new.engine in
    let s = c.shown_reply-reply.ensures in
    ok_then _ _ c.shown_reply-reply.result
    (λ reply shown. λ texts.
    show_step (world_in old) (kept_in old) _ _ _ refl shown
    (state_goes old new c.args.self.now.batch texts c.args.self.now.places.held s.kept s.grid s.handles
    c.handles.ensures c.requires))
    s.shown

pub returns-clause-held : goal.returns-clause-held
returns-clause-held c =
    held_go c.args.engine.now c.shown_reply-reply.new.engine _ c.shown_reply-reply.ensures.handles c.handles.ensures
    c.args.self.now.places.held c.requires
