use Rattle.std.proofs.Common.{◌≤◌, length}
use Rattle.psac_cert.specs.Lines.{lines_left}
use Rattle.psac_cert.proofs.Written.{Going}
use Rattle.psac_cert.proofs.write.write_lines.Given as goal

abbrev pub invariant-lines : goal.invariant-lines
invariant-lines g l = record {
  going : Going (lines_left l.with l.initial.left.items) (lines_left l.with l.left.items) (g.K.Sink.held l.initial.out) (g.K.Sink.held l.out);
  later : g.K.Sink.faults l.initial.out ≤ g.K.Sink.faults l.out;
}

abbrev pub decreases-lines : goal.decreases-lines
decreases-lines g l = length (lines_left l.with l.left.items)
