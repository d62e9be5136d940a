use Rattle.std.proofs.Common.{◌∙◌, sym, refl}
use Rattle.psac_base.specs.Outside.{Appended, AppendedPart}
use Rattle.psac_report.specs.Session.{step_of}
use Rattle.psac_engine.specs.Engine.{caps_in, world_in}
use Rattle.psac_session.specs.declared.desk.Carried.TheVariants as carried
use Rattle.psac_session.specs.Heard.{Heard, heard_where, shown_in}
use Rattle.psac_session.specs.Handles.{state_in}
use Rattle.psac_session.proofs.Goes.{held_go}
use Rattle.psac_session.proofs.Taken.{broke_off, expected_now, shown_is, state_same, took}
use Rattle.psac_session.proofs.Told.{on_ok, told}
use Rattle.psac_session.proofs.line.take_line.Goals as goal

pub hear_where-requires-clause-expected : goal.hear_where-requires-clause-expected
hear_where-requires-clause-expected g c =
    let e = c.args.engine.now in
    let w = world_in e in
    let step = step_of w (caps_in e) in
    let s = state_in e c.args.desk.now c.args.texts.now in
    let s' = state_in c.one_line.new.engine c.one_line.new.self c.one_line.new.texts in
    let is = told w step s s' c.args.line.now (carried.Reply c.in-Ok-Reply.text c.in-Ok-Reply.commits) (rw c.in-Ok-Reply.field-0-is at c.in-Ok-Reply.ensures.carried) refl in
    expected_now w step s s' c.args.line.now c.in-Ok-Reply.text.items c.in-Ok-Reply.commits _ _ _ is (shown_is w c.one_line.new.engine c.one_line.new.self c.one_line.new.texts c.one_line.ensures.world) c.requires.expected

pub returns-in-Ok-clause-on : goal.returns-in-Ok-clause-on
returns-in-Ok-clause-on g c = λ _.
    let e = c.args.engine.now in
    let w = world_in e in
    let step = step_of w (caps_in e) in
    let s = state_in e c.args.desk.now c.args.texts.now in
    let s' = state_in c.one_line.new.engine c.one_line.new.self c.one_line.new.texts in
    let is = told w step s s' c.args.line.now (carried.Reply c.in-Ok-Reply.text c.in-Ok-Reply.commits) (rw c.in-Ok-Reply.field-0-is at c.in-Ok-Reply.ensures.carried) refl in
    let wrote : Appended (g.K.Sink.held c.args.out.now) (g.K.Sink.held c.write_whole.new.out) c.in-Ok-Reply.text.items = rw c.deref.ensures.value at c.in-Ok.ensures.ok in
    let heard : Heard (g.L.Listener.heard c.args.listener.now) (g.L.Listener.heard c.hear_where.new.listener) (heard_where c.in-Ok-Reply.commits (shown_in c.one_line.new.engine)) =
    on_ok c.hear_where.result (sym c.is_err.ensures.value ∙ c.if-is_err.false) c.hear_where.ensures.heard in
    took w step s s' _ c.args.line.now _ _ _ _ _ is
    (state_same c.one_line.new.engine c.hear_where.new.engine c.one_line.new.self c.one_line.new.texts c.hear_where.ensures.kept c.hear_where.ensures.grid c.hear_where.ensures.handles c.handles.ensures
    c.in-Ok-Reply.ensures.held)
    (shown_is w c.one_line.new.engine c.one_line.new.self c.one_line.new.texts c.one_line.ensures.world) wrote heard

pub returns-clause-part : goal.returns-clause-part
returns-clause-part g c = λ _.
    let e = c.args.engine.now in
    let w = world_in e in
    let step = step_of w (caps_in e) in
    let s = state_in e c.args.desk.now c.args.texts.now in
    let s' = state_in c.one_line.new.engine c.one_line.new.self c.one_line.new.texts in
    let is = told w step s s' c.args.line.now (carried.Reply c.in-Ok-Reply.text c.in-Ok-Reply.commits) (rw c.in-Ok-Reply.field-0-is at c.in-Ok-Reply.ensures.carried) refl in
    let wrote : AppendedPart (g.K.Sink.held c.args.out.now) (g.K.Sink.held c.write_whole.new.out) c.in-Ok-Reply.text.items = rw c.deref.ensures.value at c.in-Err-write_whole.ensures.part in
    let heard : Heard (g.L.Listener.heard c.args.listener.now) (g.L.Listener.heard c.hear_where.new.listener) (heard_where c.in-Ok-Reply.commits (shown_in c.one_line.new.engine)) =
    on_ok c.hear_where.result (sym c.is_err.ensures.value ∙ c.if-is_err.false) c.hear_where.ensures.heard in
    broke_off w step s s' c.args.line.now _ _ _ _ _ is (shown_is w c.one_line.new.engine c.one_line.new.self c.one_line.new.texts c.one_line.ensures.world) wrote heard

pub returns-in-Ok-clause-held : goal.returns-in-Ok-clause-held
returns-in-Ok-clause-held g c = λ _.
    held_go c.one_line.new.engine c.hear_where.new.engine _ c.hear_where.ensures.handles c.handles.ensures c.one_line.new.self.places.held c.in-Ok-Reply.ensures.held
