use Rattle.std.proofs.Common.{rules, ◌≡◌, ◌<◌, ◌+◌, suc, length, slice_set, ap, sym, ◌∙◌, subst, arith}
use Rattle.psac_trace.specs.Asking.{IsSeen, SeenFirst, looked_by}
use Rattle.psac_trace.proofs.Asked.{looked_is, looked_none, looked_more, sees_looked}
use Rattle.psac_trace.proofs.Sources.{seen_start, seen_step, sees_at, seen_count}
use Rattle.psac_trace.proofs.ask.look_at.Goals as goal

pub loop-i-init : goal.loop-i-init
loop-i-init c = record {
  table = c.requires.table;
  looked = looked_none c.args.pass.now.knows;
  count = search rules;
  seen = seen_start c.args.pass.now.knows c.args.all.now.items;
}

pub seen_at-seen-requires-clause-sees : goal.seen_at-seen-requires-clause-sees
seen_at-seen-requires-clause-sees c =
    let v = c.args.pass.now.knows in
    let u = c.loop-i.pass.knows in
    let i = c.loop-i.i in
    let inv = c.loop-i.invariant in
    let low : i < length c.loop-i.all.items = omega (arith, c.loop-i-test.true, inv.count) in
    let k = sees_at v c.args.all.now.items c.loop-i.all.items i c.index.result.now low c.index.ensures inv.seen c.requires.sees in
    (k.0, sees_looked v u c.index.result.now.from k.0 (looked_is v u i inv.looked) k.1)

pub loop-i-preserved : goal.loop-i-preserved
loop-i-preserved c =
    let v = c.args.pass.now.knows in
    let u = c.loop-i.pass.knows in
    let i = c.loop-i.i in
    let inv = c.loop-i.invariant in
    let ss = c.args.all.now.items in
    let rs = c.loop-i.all.items in
    let s = c.seen_at-seen.result in
    let r = c.index.result.now in
    let low : i < length rs = omega (arith, c.loop-i-test.true, inv.count) in
    let one : IsSeen v r s = record { from = c.seen_at-seen.ensures.from; value = λ x k. c.seen_at-seen.ensures.value x (sees_looked v u r.from x (looked_is v u i inv.looked) k) } in
    let more = seen_step v ss rs i r s low c.index.ensures inv.seen one in
    let now = slice_set rs i s in
    let next : suc i ≡ i + 1 = omega arith in
    record {
      table = c.seen_at-seen.ensures.table ∙ inv.table;
      looked = c.seen_at-seen.ensures.looked ∙ ap (looked_by 1) inv.looked ∙ looked_more v i;
      count = inv.count ∙ seen_count v i ss rs inv.seen ∙ sym (seen_count v (suc i) ss now more);
      seen = subst (λ n. SeenFirst v n ss now) next more;
    }
