use Rattle.std.proofs.Common.{◌≡◌, ◌≤◌, ◌<◌, ◌∙◌, length, sym, arith}
use Rattle.psac_cert.specs.Lines.{lines_left}
use Rattle.psac_cert.proofs.Parting.{common_at, differs, ends_no, ends_yes, goes_on, within_at}
use Rattle.psac_cert.proofs.verdict.compare_lines.Goals as goal

pub returns-then-n-len : goal.returns-then-n-len
returns-then-n-len c =
    let is = common_at c.lines.at c.common_len-n.result c.args.text.now c.next_line.new.line.items
    (rw c.as_slice.ensures.value at c.common_len-n.ensures.common) in
    let few : c.common_len-n.result < length c.next_line.new.line.items = omega (arith, c.if-n-len.true, c.len.ensures) in
    sym (c.lines.invariant.same ∙ differs c.lines.at c.common_len-n.result _ c.next_line.new.line.items
    (lines_left c.args.with.now c.next_line.new.left.items) _
    (c.in_ok-next_line.ensures.line c.if-not-branch.false) is few)

pub lines-preserved : goal.lines-preserved
lines-preserved c =
    let is = common_at c.lines.at c.common_len-n.result c.args.text.now c.next_line.new.line.items
    (rw c.as_slice.ensures.value at c.common_len-n.ensures.common) in
    let all : length c.next_line.new.line.items ≤ c.common_len-n.result = omega (arith, c.if-n-len.false, c.len.ensures) in
    record {
      same = c.lines.invariant.same ∙ goes_on c.lines.at c.common_len-n.result c.args.text.now c.next_line.new.line.items
          (lines_left c.args.with.now c.next_line.new.left.items) _ (c.in_ok-next_line.ensures.line c.if-not-branch.false) is all;
      within = within_at c.lines.at c.common_len-n.result c.args.text.now c.lines.invariant.within c.common_len-n.ensures.within;
    }

pub returns-then-at-text : goal.returns-then-at-text
returns-then-at-text c =
    sym (c.lines.invariant.same ∙ ends_no c.lines.at c.args.text.now _
    (c.in_ok-next_line.ensures.end c.if-not-branch.true) (omega (arith, c.if-at-text.true)))

pub returns : goal.returns
returns c =
    sym (c.lines.invariant.same ∙ ends_yes c.lines.at c.args.text.now _
    (c.in_ok-next_line.ensures.end c.if-not-branch.true)
    c.lines.invariant.within (omega (arith, c.if-at-text.false)))
