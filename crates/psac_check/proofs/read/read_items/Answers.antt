use Rattle.std.proofs.Common.{◌∙◌, arith}
use Rattle.std.proofs.lemmas.Result.{err_from_is_err_and}
use Rattle.psac_check.proofs.Bound.{item_passes, item_stops}
use Rattle.psac_check.proofs.read.read_items.Goals as goal

pub returns-in_err-read_item : goal.returns-in_err-read_item
returns-in_err-read_item c =
    let stop = item_stops c.args.scope.now c.args.written.now c.args.items.now c.loop-i.i c.index-items-i.result _ (omega arith) c.index-items-i.is c.in_err-read_item.ensures in
    let p = err_from_is_err_and c.from_residual.result c.from_residual.ensures.1 in
    rw (p.1, p.2) (stop ∙ c.loop-i.invariant)

pub loop-i-preserved : goal.loop-i-preserved
loop-i-preserved c =
    item_passes c.args.scope.now c.args.written.now c.args.items.now c.loop-i.i c.index-items-i.result (omega arith) c.index-items-i.is c.in_ok-read_item.ensures ∙ c.loop-i.invariant
