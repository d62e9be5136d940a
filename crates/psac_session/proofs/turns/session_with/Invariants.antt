use Rattle.std.proofs.Common.{◌≡◌, ◌⊎◌, ◌≤◌, ◌+◌, ◌-◌, true, length}
use Rattle.std.specs.Io.KnownBytes.{Consumes, IsAtEnd}
use Rattle.psac_base.specs.Lines.{bytes_of, given_of, has_ended, is_live}
use Rattle.psac_inputs.specs.Batch.{GoesInto}
use Rattle.psac_report.specs.Session.{step_of}
use Rattle.psac_engine.specs.Engine.{caps_in, commits_in, grid_in, world_in}
use Rattle.psac_session.specs.Handles.{AreHeld, state_in}
use Rattle.psac_session.specs.State.{opening}
use Rattle.psac_session.proofs.Turn.{Going, Over}
use Rattle.psac_session.proofs.turns.session_with.Given as goal

abbrev pub invariant-turns : goal.invariant-turns
invariant-turns g l =
    let w = world_in l.initial.engine in
    let step = step_of w (caps_in l.initial.engine) in
    let start = opening l.initial.engine l.initial.texts in
    record {
      live : is_live l.lines ≡ true;
      state : Going w step start (bytes_of l.lines) (given_of l.lines) (state_in l.engine l.desk l.texts) (g.K.Sink.held l.initial.out, g.L.Listener.heard l.initial.listener) (g.K.Sink.held l.out, g.L.Listener.heard l.listener)
          ⊎ Over w step start (bytes_of l.lines) (given_of l.lines) (has_ended l.lines) (g.K.Sink.held l.initial.out, g.L.Listener.heard l.initial.listener) (g.K.Sink.held l.out, g.L.Listener.heard l.listener);
      source : Consumes (g.S.Source.left l.initial.script) (g.S.Source.left l.script) (bytes_of l.lines);
      count : g.S.Source.taken l.script ≡ g.S.Source.taken l.initial.script + length (bytes_of l.lines);
      at_end : has_ended l.lines ≡ true → IsAtEnd (g.S.Source.left l.script);
      later : g.S.Source.faults l.initial.script ≤ g.S.Source.faults l.script;
      later_out : g.K.Sink.faults l.initial.out ≤ g.K.Sink.faults l.out;
      few : commits_in l.engine ≤ commits_in l.initial.engine + given_of l.lines;
      course : g.L.Listener.course l.listener ≡ g.L.Listener.course l.initial.listener;
      goes : GoesInto l.desk.batch (grid_in l.engine);
      held : AreHeld l.engine l.desk.places.held;
      world : world_in l.engine ≡ world_in l.initial.engine;
      caps : caps_in l.engine ≡ caps_in l.initial.engine;
    }

abbrev pub decreases-turns : goal.decreases-turns
decreases-turns g l = 16777217 - given_of l.lines
