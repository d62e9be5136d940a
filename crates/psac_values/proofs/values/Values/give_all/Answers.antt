use Rattle.psac_values.proofs.Terms.{◌≡◌, suc, ◌+◌, sym, ap, subst, ◌∙◌, arith, Member, member_filter, ValueView, rewound, gave_slot, gave_all, held_from}
use Rattle.psac_values.proofs.Giving.{gave_below, begins, goes_on, ends}
use Rattle.psac_values.proofs.values.Values.give_all.Goals as goal

pub loop-slot-init : goal.loop-slot-init
loop-slot-init c = let r = c.rewind.ensures in (r.table, r.rewound ∙ sym (begins (rewound c.args.pass.now.knows)), r.whole)

pub give_slot-requires-clause-table : goal.give_slot-requires-clause-table
give_slot-requires-clause-table c = c.loop-slot.invariant.0 ∙ c.requires.table

pub give_slot-requires-clause-begun : goal.give_slot-requires-clause-begun
give_slot-requires-clause-begun c = ap (λ (u : ValueView). u.claims.counter) c.loop-slot.invariant.1

pub give_slot-requires-clause-below : goal.give_slot-requires-clause-below
give_slot-requires-clause-below c =
    let b = ap (λ (u : ValueView). u.claims.count) c.loop-slot.invariant.1 in
    let d = ap (λ (u : ValueView). u.claims.count) (ap (λ p. p.knows) c.pass.view_is ∙ c.rewind.ensures.rewound) in
    omega (arith, c.loop-slot-test.true, b, d, c.pass.invariant.1.count_is)

pub give_slot-requires-clause-next : goal.give_slot-requires-clause-next
give_slot-requires-clause-next c = λ h m.
    c.requires.next h (member_filter (held_from c.loop-slot.slot) h c.args.pass.now.knows.claims.held (subst (λ (u : ValueView). Member h u.claims.held) c.loop-slot.invariant.1 m)).0

pub give_slot-requires-clause-whole : goal.give_slot-requires-clause-whole
give_slot-requires-clause-whole c = c.loop-slot.invariant.2

pub loop-slot-preserved : goal.loop-slot-preserved
loop-slot-preserved c =
    let g = c.give_slot.ensures in
    let i = c.loop-slot.invariant in
    let n = c.loop-slot.slot in
    let one : suc n ≡ n + 1 = omega arith in
    (g.table ∙ i.0, g.gave ∙ (ap (gave_slot n) i.1 ∙ (goes_on n (rewound c.args.pass.now.knows) ∙ ap (λ k. gave_below k (rewound c.args.pass.now.knows)) one)), g.whole)

pub returns-clause-table : goal.returns-clause-table
returns-clause-table c = c.loop-slot.invariant.0

pub returns-clause-gave : goal.returns-clause-gave
returns-clause-gave c =
    let e = ap (λ p. p.knows) c.pass.view_is ∙ c.rewind.ensures.rewound in
    c.loop-slot.invariant.1 ∙ (ap (gave_below c.loop-slot.slot) (sym e) ∙ (ends _ _ _ _ _ c.pass.inside.seat.me.0 c.pass.invariant.1 c.loop-slot.slot (omega (arith, c.loop-slot-test.false, c.loop-slot.auto.slot-end)) ∙ ap gave_all e))
