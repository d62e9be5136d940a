use Rattle.std.proofs.Common.{◌≡◌, ◌⊎◌, ◌≤◌, ◌+◌, ◌-◌, true, length, if◌then◌else◌}
use Rattle.psac_base.specs.Lines.{EndsAtEnd, Grew, WasNeeded}
use Rattle.psac_base.proofs.lines.Lines.find_end.Given as goal

abbrev pub invariant-pieces : goal.invariant-pieces
invariant-pieces g l = record {
  live : l.self.live ≡ true;
  at : l.self.at ≡ l.initial.self.at;
  grew : Grew l.initial.self.bytes.items l.self.bytes.items (g.S.Source.left l.initial.source) (g.S.Source.left l.source)
      (g.S.Source.taken l.initial.source) (g.S.Source.taken l.source);
  later : g.S.Source.faults l.initial.source ≤ g.S.Source.faults l.source;
  still : l.initial.self.ended ≡ true → (l.source ≡ l.initial.source) × (l.self.bytes.items ≡ l.initial.self.bytes.items);
  lazy : (l.source ≡ l.initial.source) × (l.self.bytes.items ≡ l.initial.self.bytes.items)
      ⊎ WasNeeded l.initial.self.bytes.items l.self.bytes.items l.initial.self.at;
  ended : EndsAtEnd l.initial.self.ended l.self.ended (g.S.Source.left l.source);
}

abbrev pub decreases-pieces : goal.decreases-pieces
decreases-pieces g l = (16777217 - length l.self.bytes.items) + (if l.self.ended then 0 else 1)
