use Rattle.std.proofs.Common.{◌≡◌, ◌∙◌, ◌++◌, ◌<◌, rules, sym, refl, arith, length}
use Rattle.psac_base.specs.Outside.{Appended, AppendedPart}
use Rattle.psac_base.specs.Causes.{Rose}
use Rattle.psac_cert.specs.Lines.{lines_left}
use Rattle.psac_cert.proofs.Written.{begins, goes, ends, on_err, on_ok, part_so_far, part_then, rose_since, shorter}
use Rattle.psac_cert.proofs.write.write_lines.Goals as goal

pub lines-init : goal.lines-init
lines-init g c = record { going = begins _ _ _ refl; later = omega arith }

pub lines-preserved : goal.lines-preserved
lines-preserved g c =
    let wrote : Appended (g.K.Sink.held c.lines.out) (g.K.Sink.held c.write_whole.new.out) c.next_line.new.line.items =
    rw c.as_slice.ensures.value at (on_ok c.write_whole.result (sym c.is_err.ensures.value ∙ c.if-is_err.false) c.write_whole.ensures.ok) in
    record {
      going = goes _ _ _ _ _ _ _ (c.in-Ok-true.ensures.line (search rules)) wrote c.lines.invariant.going;
      later = omega (arith, c.lines.invariant.later, c.write_whole.ensures.cause.later);
    }

pub lines-smaller : goal.lines-smaller
lines-smaller g c =
    let line = c.next_line.new.line.items in
    let left = lines_left c.args.with.now c.next_line.new.left.items in
    let next : lines_left c.args.with.now c.lines.left.items ≡ line ++ left = c.in-Ok-true.ensures.line (search rules) in
    let some : 0 < length line = c.in-Ok-true.ensures.some (search rules) in
    shorter (lines_left c.args.with.now c.lines.left.items) line left next some

pub returns-then-is_err-clause-part : goal.returns-then-is_err-clause-part
returns-then-is_err-clause-part g c =
    let part : AppendedPart (g.K.Sink.held c.lines.out) (g.K.Sink.held c.write_whole.new.out) c.next_line.new.line.items =
    rw c.as_slice.ensures.value at (on_err c.write_whole.result (sym c.is_err.ensures.value ∙ c.if-is_err.true) c.write_whole.ensures.part) in
    part_then _ _ _ _ _ _ _ (c.in-Ok-true.ensures.line (search rules)) part c.lines.invariant.going

pub returns-then-is_err-clause-later : goal.returns-then-is_err-clause-later
returns-then-is_err-clause-later g c = omega (arith, c.lines.invariant.later, c.write_whole.ensures.cause.later)

pub returns-then-is_err-clause-cause : goal.returns-then-is_err-clause-cause
returns-then-is_err-clause-cause g c = λ _.
    rose_since _ _ _ c.lines.invariant.later (on_err c.write_whole.result (sym c.is_err.ensures.value ∙ c.if-is_err.true) c.write_whole.ensures.cause.failed)

pub returns-in-Ok-false-clause-ok : goal.returns-in-Ok-false-clause-ok
returns-in-Ok-false-clause-ok g c = ends _ _ _ _ (c.in-Ok-false.ensures.end (search rules)) c.lines.invariant.going

pub returns-in-Err-clause-part : goal.returns-in-Err-clause-part
returns-in-Err-clause-part g c = part_so_far _ _ _ _ c.lines.invariant.going
