use Rattle.std.proofs.Common.{rules, arith}
use Rattle.std.proofs.lemmas.List.{take_all}
use Rattle.psac_open.proofs.Enter.{all_more, take_one}
use Rattle.psac_open.proofs.texts.enter_texts.Goals as goal

pub each-init : goal.each-init
each-init c = record { added = search rules; each = search rules }

pub each-preserved : goal.each-preserved
each-preserved c =
    record {
      added = rw (take_one c.args.consts.now c.each.text-index c.text-item.result c.each-test.true c.text-item.is, c.in_ok-push-in-Ok.ensures.items)
          (all_more _ _ _ _ c.text-item.result _ _ c.each.invariant.added (rw c.bytes.ensures at c.in-Ok.ensures.ok));
      each = search rules;
    }

pub returns-clause-added : goal.returns-clause-added
returns-clause-added c = rw (take_all c.each.text-index c.args.consts.now c.each-test.false) at c.each.invariant.added

pub returns-clause-each : goal.returns-clause-each
returns-clause-each c =
    let end = c.each.auto.text-index-end in
    let past = c.each-test.false in
    rw c.each.invariant.each (omega arith)
