use Rattle.std.proofs.Common.{◌≡◌, ◌∙◌, ◌+◌, suc, Some, map, subst, arith}
use Rattle.psac_engine.specs.Showing.{shown_from}
use Rattle.psac_engine.proofs.Showing.{fixed_looked, looked_since, shown_next}
use Rattle.psac_engine.proofs.show.show_slots.Goals as goal

pub show_slot-requires-clause-fixed : goal.show_slot-requires-clause-fixed
show_slot-requires-clause-fixed c =
    let f = c.requires.fixed in
    let low = c.loop-i-test.true in
    let most = f.2 in
    (f.0, fixed_looked f.0 c.args.pass.now.knows c.loop-i.pass.knows c.loop-i.invariant.looked f.1, omega (arith, low, most))

pub loop-i-preserved : goal.loop-i-preserved
loop-i-preserved c =
    let v = c.args.pass.now.knows in
    let u = c.loop-i.pass.knows in
    let e : suc c.loop-i.i ≡ c.loop-i.i + 1 = omega arith in
    record {
      table = c.show_slot.ensures.table ∙ c.loop-i.invariant.table;
      looked = looked_since v u c.show_slot.new.pass.knows c.loop-i.invariant.looked c.show_slot.ensures.looked;
      shown = subst (λ n. map (λ x. Some x) c.push.new.self.items ≡ shown_from c.args.first n v) e
          (shown_next c.args.first c.loop-i.i v u c.loop-i.told.items c.push.new.self.items c.show_slot.result c.loop-i.invariant.looked c.loop-i.invariant.shown c.in_ok-push.ensures.items c.show_slot.ensures.value);
    }
