use Rattle.std.proofs.Common.{◌∙◌, ap, sym}
use Rattle.psac_inputs.specs.Batch.{put_all}
use Rattle.psac_engine.specs.Engine.{caps_in, grid_in, kept_in, world_in}
use Rattle.psac_engine.specs.Held.{drops, names_in}
use Rattle.psac_script.specs.Replies.{reply_view}
use Rattle.psac_session.specs.Holding.{places_among}
use Rattle.psac_session.specs.State.{state_at}
use Rattle.psac_session.proofs.Goes.{held_go, places_lost}
use Rattle.psac_session.proofs.Stepped.{commit_goes, ok_then}
use Rattle.psac_session.proofs.desk.Desk.commit.Goals as goal

pub returns-clause-step : goal.returns-clause-step
returns-clause-step g c =
    ok_then _ _ c.reply_to.result
    (λ reply replies. λ texts.
    let old = c.args.engine.now in
    let new = c.commit-answer.new.self in
    let held = c.args.self.now.places.held in
    commit_goes (world_in old) (caps_in old) (grid_in old) (put_all c.args.self.now.batch (grid_in old)) (grid_in new)
    texts (places_among (names_in old) held)
    (kept_in old) c.commit-answer.new.batch (kept_in new) c.commit-answer.result (reply_view reply) c.commit-answer.ensures.grid
    c.commit-answer.ensures.batch c.commit-answer.ensures.answer c.commit-answer.ensures.kept replies
    ∙ ap (λ ps. (state_at new c.commit-answer.new.batch texts ps, reply_view reply))
    (sym (places_lost old new (drops (kept_in old) (kept_in new) c.commit-answer.result) c.commit-answer.ensures.handles
    c.handles.ensures held c.requires.held)))
    c.reply_to.ensures

pub returns-clause-held : goal.returns-clause-held
returns-clause-held g c =
    let old = c.args.engine.now in
    let new = c.commit-answer.new.self in
    held_go old new (drops (kept_in old) (kept_in new) c.commit-answer.result) c.commit-answer.ensures.handles c.handles.ensures
    c.args.self.now.places.held c.requires.held
