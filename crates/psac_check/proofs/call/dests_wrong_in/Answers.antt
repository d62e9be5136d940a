use Rattle.std.proofs.Common.{◌∙◌, arith}
use Rattle.std.proofs.lemmas.Result.{err_from_is_err_and}
use Rattle.psac_check.proofs.Calls.{dest_passes, dest_stops}
use Rattle.psac_check.proofs.call.dests_wrong_in.Goals as goal

pub returns-in_err-dest_wrong_at : goal.returns-in_err-dest_wrong_at
returns-in_err-dest_wrong_at c =
    let stop = dest_stops c.args.scope.now c.args.written.now c.args.dests.now c.loop-i.i _ (omega arith) c.in_err-dest_wrong_at.ensures in
    let p = err_from_is_err_and c.from_residual.result c.from_residual.ensures.1 in
    rw (p.1, p.2) (stop ∙ c.loop-i.invariant)

pub loop-i-preserved : goal.loop-i-preserved
loop-i-preserved c =
    dest_passes c.args.scope.now c.args.written.now c.args.dests.now c.loop-i.i (omega arith) c.in_ok-dest_wrong_at.ensures ∙ c.loop-i.invariant
