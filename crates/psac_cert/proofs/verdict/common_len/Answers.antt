use Rattle.std.proofs.Common.{◌≡◌, ◌==◌, get_or, true, false, arith}
use Rattle.std.specs.Prelude.{nat_eq}
use Rattle.std.proofs.lemmas.Bool.Decides.{nat_tests}
use Rattle.std.proofs.lemmas.List.Sums.{common_prefix_len-drop_no, common_prefix_len-drop_yes}
use Rattle.psac_cert.proofs.Parting.{none_behind}
use Rattle.psac_cert.proofs.verdict.common_len.Goals as goal

pub loop-n-preserved : goal.loop-n-preserved
loop-n-preserved c =
    let n = c.loop-n.n in
    let same : (get_or c.args.text.now n 0 == get_or c.args.line.now n 0) ≡ true = grind (arith, nat_tests) in
    let more = common_prefix_len-drop_yes nat_eq c.args.text.now c.args.line.now n 0 0 c.loop-n-test.true c.if-n-line.true same in
    record { common = omega (arith, more, c.loop-n.invariant.common); within = omega (arith, c.loop-n-test.true) }

pub returns-else-text-n-clause-common : goal.returns-else-text-n-clause-common
returns-else-text-n-clause-common c =
    let n = c.loop-n.n in
    let other : (get_or c.args.text.now n 0 == get_or c.args.line.now n 0) ≡ false = grind (arith, nat_tests) in
    let none = common_prefix_len-drop_no nat_eq c.args.text.now c.args.line.now n 0 0 c.loop-n-test.true c.if-n-line.true other in
    omega (arith, none, c.loop-n.invariant.common)

pub returns-else-n-line-clause-common : goal.returns-else-n-line-clause-common
returns-else-n-line-clause-common c =
    let none = (none_behind c.args.text.now c.args.line.now c.loop-n.n).1 (omega (arith, c.if-n-line.false)) in
    omega (arith, none, c.loop-n.invariant.common)

pub returns-after-loop-n-clause-common : goal.returns-after-loop-n-clause-common
returns-after-loop-n-clause-common c =
    let none = (none_behind c.args.text.now c.args.line.now c.loop-n.n).0 (omega (arith, c.loop-n-test.false)) in
    omega (arith, none, c.loop-n.invariant.common)
