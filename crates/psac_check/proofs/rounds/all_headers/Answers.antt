use Rattle.std.proofs.Common.{◌≡◌, Result, Ok, sym, subst, ◌∙◌, arith}
use Rattle.psac_model.specs.Series.{Fault, so}
use Rattle.psac_check.proofs.Follow.{so_passes}
use Rattle.psac_check.proofs.Headers.{one_header}
use Rattle.psac_check.proofs.rounds.all_headers.Goals as goal

pub loop-i-preserved : goal.loop-i-preserved
loop-i-preserved c =
    let f = c.index-funcs-i.result in
    let one = one_header c.args.funcs.now c.loop-i.i f (omega arith) c.index-funcs-i.is in
    let done : Result (Unit {0}) Fault = Ok tt in
    let passed = subst (λ z. so z f.line done ≡ Ok c.in_ok-at_line.field-0) c.header.ensures c.in_ok-at_line.ensures in
    sym (one ∙ so_passes _ f.line c.in_ok-at_line.field-0 _ passed) ∙ c.loop-i.invariant
