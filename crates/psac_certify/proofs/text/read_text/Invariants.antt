use Rattle.std.proofs.Common.{◌≤◌, ◌<◌, ◌-◌, [], length}
use Rattle.psac_base.specs.Lines.{Grew}
use Rattle.psac_certify.proofs.text.read_text.Given as goal

abbrev pub invariant-pieces : goal.invariant-pieces
invariant-pieces g l = record {
  grew : Grew [] l.text.items (g.S.Source.left l.initial.script) (g.S.Source.left l.script)
      (g.S.Source.taken l.initial.script) (g.S.Source.taken l.script);
  few : length l.text.items < 16777217;
  later : g.S.Source.faults l.initial.script ≤ g.S.Source.faults l.script;
}

abbrev pub decreases-pieces : goal.decreases-pieces
decreases-pieces g l = 16777217 - length l.text.items
