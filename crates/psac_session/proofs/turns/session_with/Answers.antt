use Rattle.std.proofs.Common.{◌≡◌, ◌<◌, length, arith, rules, inl, sym, ◌∙◌, ap, refl, subst, true, false}
use Rattle.psac_base.specs.Lines.{bytes_of, given_of, is_live}
use Rattle.psac_report.specs.Steps.{is_quit}
use Rattle.psac_report.specs.Session.{step_of}
use Rattle.psac_engine.specs.Engine.{caps_in, world_in}
use Rattle.psac_session.specs.Heard.{Outward}
use Rattle.psac_session.specs.Handles.{state_in}
use Rattle.psac_session.specs.State.{opening}
use Rattle.psac_session.proofs.Adding.{room_left}
use Rattle.psac_session.proofs.Goes.{state_begins}
use Rattle.psac_session.proofs.Taken.{broke_at, expected_at, took_at}
use Rattle.psac_session.proofs.Told.{given_more, rose_since, smaller}
use Rattle.psac_session.proofs.Turn.{Going, begins}
use Rattle.psac_session.proofs.Fed.{fed, going_on, going_yet, turn}
use Rattle.psac_session.proofs.Ended.{breaks, consumes_nil, ends, foreseen, nothing, part_going, part_wrote, quits, quits_read, too_long, whole_part}
use Rattle.psac_session.proofs.turns.session_with.Goals as goal

pub returns-in_default-clause-part : goal.returns-in_default-clause-part
returns-in_default-clause-part g c = nothing _ _ _ _

pub returns-in_default-new-clause-part : goal.returns-in_default-new-clause-part
returns-in_default-new-clause-part g c = nothing _ _ _ _

pub turns-init : goal.turns-init
turns-init g c =
    let e = c.args.engine.now in
    let w = world_in e in
    let step = step_of w (caps_in e) in
    let start = opening e c.args.texts.now in
    let begun : Outward = (g.K.Sink.held c.args.out.now, g.L.Listener.heard c.args.listener.now) in
    let bytes = bytes_of c.in-Ok.lines in
    let given = given_of c.in-Ok.lines in
    record {
      live = c.in-Ok.ensures.live;
      state = inl
          (subst (λ s. Going w step start bytes given s begun begun) (sym (state_begins e c.in-Ok-new.desk c.args.texts.now c.in-Ok-new.ensures.empty c.in-Ok-new.ensures.none))
          (begins w step start bytes given begun c.in-Ok.ensures.bytes c.in-Ok.ensures.given));
      source = consumes_nil _ bytes c.in-Ok.ensures.bytes;
      count = omega (arith, ap length c.in-Ok.ensures.bytes);
      at_end = λ ended. absurd (let bad : false ≡ true = sym c.in-Ok.ensures.ended ∙ ended in cc);
      later = omega arith;
      later_out = omega arith;
      few = omega arith;
      course = refl;
      goes = c.in-Ok-new.ensures.goes;
      held = c.in-Ok-new.ensures.held;
      world = refl;
      caps = refl;
    }

pub take_line-requires-clause-room : goal.take_line-requires-clause-room
take_line-requires-clause-room g c = λ _ _.
    let i = c.turns.invariant in
    let n = c.in-Ok-true.ensures in
    let f = fed c.args.engine.now c.args.texts.now g.S.Source.left n.still n.grew n.ended i.source i.count i.at_end i.state in
    let line = n.line (search rules) in
    let going = going_on f.state line in
    let live : is_live c.next_line.new.self ≡ true = search rules in
    let short : length (bytes_of c.next_line.new.self) < 16777217 =
    omega (arith, c.next_line.new.self.short live, c.next_line.new.self.bytes.ok) in
    let few : given_of c.turns.lines < 16777217 = omega (arith, smaller _ _ _ _ _ line short) in
    room_left _ _ going.seen (given_of c.turns.lines) c.requires.room going.adds.1 going.many few

pub take_line-requires-clause-expected : goal.take_line-requires-clause-expected
take_line-requires-clause-expected g c = λ _ _.
    let i = c.turns.invariant in
    let n = c.in-Ok-true.ensures in
    let f = fed c.args.engine.now c.args.texts.now g.S.Source.left n.still n.grew n.ended i.source i.count i.at_end i.state in
    let e = c.turns.engine in
    expected_at (world_in e) _ (caps_in e) (caps_in c.args.engine.now) (state_in e c.turns.desk c.turns.texts) _ _ _ _ _
    i.world i.caps c.deref.ensures.value i.course
    (foreseen f _ _ (g.L.Listener.course c.args.listener.now) (n.line (search rules)) c.requires.course)

pub returns-in-SinkFailed-clause-part : goal.returns-in-SinkFailed-clause-part
returns-in-SinkFailed-clause-part g c =
    let i = c.turns.invariant in
    let n = c.in-Ok-true.ensures in
    let f = fed c.args.engine.now c.args.texts.now g.S.Source.left n.still n.grew n.ended i.source i.count i.at_end i.state in
    let e = c.turns.engine in
    let broke =
    broke_at (world_in e) _ (caps_in e) (caps_in c.args.engine.now) (state_in e c.turns.desk c.turns.texts) _ _ _ _ i.world i.caps
    c.deref.ensures.value (c.in-SinkFailed.ensures.part refl) in
    part_wrote f _ _ _ (n.line (search rules)) broke

pub returns-in-SinkFailed-clause-sink : goal.returns-in-SinkFailed-clause-sink
returns-in-SinkFailed-clause-sink g c = λ _. rose_since _ _ _ c.turns.invariant.later_out (c.in-SinkFailed.ensures.sink refl)

pub turns-smaller : goal.turns-smaller
turns-smaller g c =
    let n = c.in-Ok-true.ensures in
    let line = n.line (search rules) in
    let live : is_live c.next_line.new.self ≡ true = search rules in
    let short : length (bytes_of c.next_line.new.self) < 16777217 =
    omega (arith, c.next_line.new.self.short live, c.next_line.new.self.bytes.ok) in
    smaller _ _ _ _ _ line short

pub turns-preserved : goal.turns-preserved
turns-preserved g c =
    let i = c.turns.invariant in
    let n = c.in-Ok-true.ensures in
    let f = fed c.args.engine.now c.args.texts.now g.S.Source.left n.still n.grew n.ended i.source i.count i.at_end i.state in
    let e = c.turns.engine in
    let line = n.line (search rules) in
    let took =
    took_at (world_in e) _ (caps_in e) (caps_in c.args.engine.now) (state_in e c.turns.desk c.turns.texts)
    (state_in c.take_line.new.engine c.take_line.new.desk c.take_line.new.texts) _ _ _ _ i.world i.caps c.deref.ensures.value
    (c.in-On.ensures.on refl) in
    let more = given_more _ _ _ _ _ line in
    record {
      live = search rules;
      state = turn line took (going_on f.state line);
      source = f.took;
      count = f.count;
      at_end = f.at_end;
      later = omega (arith, n.later, i.later);
      later_out = omega (arith, c.take_line.ensures.later, i.later_out);
      few = omega (arith, i.few, c.take_line.ensures.commits, more);
      course = c.take_line.ensures.course ∙ i.course;
      goes = c.in-On.ensures.goes refl;
      held = c.in-On.ensures.held refl;
      world = c.take_line.ensures.world ∙ i.world;
      caps = c.take_line.ensures.caps ∙ i.caps;
    }

pub returns-in-Quit-clause-done : goal.returns-in-Quit-clause-done
returns-in-Quit-clause-done g c = λ _.
    let i = c.turns.invariant in
    let n = c.in-Ok-true.ensures in
    let f = fed c.args.engine.now c.args.texts.now g.S.Source.left n.still n.grew n.ended i.source i.count i.at_end i.state in
    let end = c.in-Quit.ensures.quit refl in
    let quit : is_quit c.next_line.new.line.items ≡ true = rw c.deref.ensures.value at end.0 in
    rw (← end.1, ← end.2) at (quits f _ _ (n.line (search rules)) quit)

pub returns-in-Quit-clause-read : goal.returns-in-Quit-clause-read
returns-in-Quit-clause-read g c = λ _.
    let i = c.turns.invariant in
    let n = c.in-Ok-true.ensures in
    let f = fed c.args.engine.now c.args.texts.now g.S.Source.left n.still n.grew n.ended i.source i.count i.at_end i.state in
    let end = c.in-Quit.ensures.quit refl in
    let quit : is_quit c.next_line.new.line.items ≡ true = rw c.deref.ensures.value at end.0 in
    quits_read f _ _ (n.line (search rules)) quit

pub returns-in-Quit-clause-part : goal.returns-in-Quit-clause-part
returns-in-Quit-clause-part g c =
    let i = c.turns.invariant in
    let n = c.in-Ok-true.ensures in
    let f = fed c.args.engine.now c.args.texts.now g.S.Source.left n.still n.grew n.ended i.source i.count i.at_end i.state in
    let end = c.in-Quit.ensures.quit refl in
    rw (← end.1, ← end.2) at (part_going f (going_on f.state (n.line (search rules))))

pub returns-in-NoMemory-clause-part : goal.returns-in-NoMemory-clause-part
returns-in-NoMemory-clause-part g c =
    let i = c.turns.invariant in
    let n = c.in-Ok-true.ensures in
    let f = fed c.args.engine.now c.args.texts.now g.S.Source.left n.still n.grew n.ended i.source i.count i.at_end i.state in
    let end = c.in-NoMemory.ensures.memory refl in
    rw (← end.0, ← end.1) at (part_going f (going_on f.state (n.line (search rules))))

pub returns-in-Ok-false-clause-done : goal.returns-in-Ok-false-clause-done
returns-in-Ok-false-clause-done g c = λ _.
    let i = c.turns.invariant in
    let n = c.in-Ok-false.ensures in
    let f = fed c.args.engine.now c.args.texts.now g.S.Source.left n.still n.grew n.ended i.source i.count i.at_end i.state in
    let end = n.end.0 (search rules) in
    ends f end.1 (f.at_end end.0)

pub returns-in-Ok-false-clause-read : goal.returns-in-Ok-false-clause-read
returns-in-Ok-false-clause-read g c = λ _.
    let i = c.turns.invariant in
    let n = c.in-Ok-false.ensures in
    let f = fed c.args.engine.now c.args.texts.now g.S.Source.left n.still n.grew n.ended i.source i.count i.at_end i.state in
    let end = n.end.0 (search rules) in
    record { bytes = bytes_of c.next_line.new.self; took = f.took; count = f.count; stop = inl (f.at_end end.0) }

pub returns-in-Ok-false-clause-part : goal.returns-in-Ok-false-clause-part
returns-in-Ok-false-clause-part g c =
    let i = c.turns.invariant in
    let n = c.in-Ok-false.ensures in
    let f = fed c.args.engine.now c.args.texts.now g.S.Source.left n.still n.grew n.ended i.source i.count i.at_end i.state in
    let end = n.end.0 (search rules) in
    whole_part _ _ _ _ _ (ends f end.1 (f.at_end end.0))

pub returns-in-Err-Failed-clause-part : goal.returns-in-Err-Failed-clause-part
returns-in-Err-Failed-clause-part g c =
    let i = c.turns.invariant in
    let n = c.in-Err-Failed.ensures in
    let f = fed c.args.engine.now c.args.texts.now g.S.Source.left n.still n.grew n.ended i.source i.count i.at_end i.state in
    part_going f (going_yet f.state (λ both. let bad = n.end.1 both in cc))

pub returns-in-Err-TooLong-clause-part : goal.returns-in-Err-TooLong-clause-part
returns-in-Err-TooLong-clause-part g c =
    let i = c.turns.invariant in
    let n = c.in-Err-TooLong.ensures in
    let f = fed c.args.engine.now c.args.texts.now g.S.Source.left n.still n.grew n.ended i.source i.count i.at_end i.state in
    part_going f (going_yet f.state (λ both. let bad = n.end.1 both in cc))

pub returns-in-Err-NoMemory-clause-part : goal.returns-in-Err-NoMemory-clause-part
returns-in-Err-NoMemory-clause-part g c =
    let i = c.turns.invariant in
    let n = c.in-Err-NoMemory.ensures in
    let f = fed c.args.engine.now c.args.texts.now g.S.Source.left n.still n.grew n.ended i.source i.count i.at_end i.state in
    part_going f (going_yet f.state (λ both. let bad = n.end.1 both in cc))

pub returns-in-Err-Failed-clause-broken : goal.returns-in-Err-Failed-clause-broken
returns-in-Err-Failed-clause-broken g c = λ _.
    let i = c.turns.invariant in
    let n = c.in-Err-Failed.ensures in
    let f = fed c.args.engine.now c.args.texts.now g.S.Source.left n.still n.grew n.ended i.source i.count i.at_end i.state in
    breaks f (n.given (search rules)) (going_yet f.state (λ both. let bad = n.end.1 both in cc))

pub returns-in-Err-TooLong-clause-much : goal.returns-in-Err-TooLong-clause-much
returns-in-Err-TooLong-clause-much g c = λ _.
    let i = c.turns.invariant in
    let n = c.in-Err-TooLong.ensures in
    let f = fed c.args.engine.now c.args.texts.now g.S.Source.left n.still n.grew n.ended i.source i.count i.at_end i.state in
    too_long f (n.long.0 (search rules)) (n.before (search rules)) (going_yet f.state (λ both. let bad = n.end.1 both in cc))
