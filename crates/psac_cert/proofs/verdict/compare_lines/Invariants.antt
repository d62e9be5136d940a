use Rattle.std.proofs.Common.{◌≡◌, ◌≤◌, length, drop}
use Rattle.psac_cert.specs.Compared.{parted}
use Rattle.psac_cert.specs.Lines.{lines_left}
use Rattle.psac_cert.proofs.verdict.compare_lines.Given as goal

abbrev pub invariant-lines : goal.invariant-lines
invariant-lines l = record {
  same : parted l.initial.at (drop l.initial.at l.text) (lines_left l.with l.initial.left.items)
      ≡ parted l.at (drop l.at l.text) (lines_left l.with l.left.items);
  within : l.at ≤ length l.text;
}

abbrev pub decreases-lines : goal.decreases-lines
decreases-lines l = length (lines_left l.with l.left.items)
