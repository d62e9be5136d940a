use Rattle.psac_marks.proofs.Terms.{◌≡◌, suc, ◌+◌, ◌<◌, map, sym, ap, subst, ◌∙◌, ⊎_elim, arith, Handle, Member, slot_times, times, Accounted, member_filter, MarksView, handle_of, Holds, dropping, rewound, released, Childless}
use Rattle.psac_marks.proofs.GivingAll.{held_from, gave_below, begins, gives_held, gives_none, all_childless, ends, held_below, ready}
use Rattle.psac_marks.proofs.marks.Marks.give_all.Goals as goal

pub drop_all-requires-clause-next : goal.drop_all-requires-clause-next
drop_all-requires-clause-next c = λ h m. c.requires.next h (subst (λ (u : MarksView). Member h u.claims.held) c.rewind.ensures.rewound m)

pub loop-slot-init : goal.loop-slot-init
loop-slot-init c =
    let r = c.rewind.ensures in
    let d = c.drop_all.ensures in
    let xs = d.dropped.0 in
    let w = rewound c.args.pass.now.knows in
    let e = d.dropped.1 ∙ ap (dropping xs) r.rewound in
    let is = ap (λ p. p.knows) c.pass.view_is ∙ e in
    let p = c.pass.invariant.1 in (
      d.table ∙ r.table,
      (
        xs,
        ready w xs (subst Holds r.rewound r.holds)
            (λ x q. subst (λ (u : MarksView). 0 < slot_times x u.claims.held) r.rewound (d.dropped.2 x q))
            (λ x q. subst (λ (u : MarksView). 0 < times x u.dropped) e (d.all x (subst (λ (u : MarksView). 0 < slot_times x u.claims.held) (sym r.rewound) q)))
            (subst (λ (u : MarksView). map handle_of u.states ≡ u.claims.held) is p.held_is)
            (λ h m. let l = held_below _ _ _ _ c.pass.inside.seat.me.0 p h (subst (λ (u : MarksView). Member h u.claims.held) (sym is) m) in let n = p.nodes_is in let k = ap (λ (u : MarksView). u.claims.count) is in omega (arith, l, n, k)),
        e ∙ sym (begins (dropping xs w)),
      ),
      subst (λ (u : MarksView). Accounted u.claims) (sym e) (subst (λ (u : MarksView). Accounted u.claims) r.rewound r.whole),
    )

pub give_slot-requires-clause-children : goal.give_slot-requires-clause-children
give_slot-requires-clause-children c =
    let i = c.loop-slot.invariant.1 in
    subst (λ (u : MarksView). Childless u c.loop-slot.slot) (sym i.2) (all_childless (dropping i.0 (rewound c.args.pass.now.knows)) i.1 c.loop-slot.slot c.loop-slot.slot)

pub give_slot-requires-clause-next : goal.give_slot-requires-clause-next
give_slot-requires-clause-next c = λ h m.
    c.requires.next h (member_filter (held_from c.loop-slot.slot) h c.args.pass.now.knows.claims.held (subst (λ (u : MarksView). Member h u.claims.held) c.loop-slot.invariant.1.2 m)).0

pub loop-slot-preserved : goal.loop-slot-preserved
loop-slot-preserved c =
    let g = c.give_slot.ensures in
    let i = c.loop-slot.invariant in
    let n = c.loop-slot.slot in
    let v = dropping i.1.0 (rewound c.args.pass.now.knows) in
    let u = c.loop-slot.pass.knows in
    let one : suc n ≡ n + 1 = omega arith in (
      g.table ∙ i.0,
      (
        i.1.0,
        i.1.1,
        ⊎_elim
            (λ (q : (slot_times n u.claims.held ≡ 0) × (c.give_slot.new.pass.knows ≡ u)). q.1 ∙ (i.1.2 ∙ gives_none v i.1.1 n (subst (λ (w : MarksView). slot_times n w.claims.held ≡ 0) i.1.2 q.0)))
            (λ (q : (h : Handle) × Member h u.claims.held × (h.slot ≡ n) × (c.give_slot.new.pass.knows ≡ released h u)). q.3 ∙ (ap (released q.0) i.1.2 ∙ gives_held v i.1.1 n q.0 (subst (λ (w : MarksView). Member q.0 w.claims.held) i.1.2 q.1) q.2))
            g.gave
            ∙ ap (λ k. gave_below k v) one,
      ),
      g.whole,
    )

pub returns-clause-gave : goal.returns-clause-gave
returns-clause-gave c =
    let i = c.loop-slot.invariant.1 in
    let d = c.drop_all.ensures in
    let e = d.dropped.1 ∙ ap (dropping d.dropped.0) c.rewind.ensures.rewound in
    let k = ap (λ (u : MarksView). u.claims.count) (ap (λ p. p.knows) c.pass.view_is ∙ e) in
    let n = c.pass.invariant.1.nodes_is in
    let a = c.loop-slot-test.false in
    i.2 ∙ ends (dropping i.0 (rewound c.args.pass.now.knows)) i.1 c.loop-slot.slot (omega (arith, a, c.loop-slot.auto.slot-end, n, k))
