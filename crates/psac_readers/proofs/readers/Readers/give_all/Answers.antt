use Rattle.psac_readers.proofs.Terms.{sym, ap, subst, ◌∙◌, arith, one_more, Member, ReadersView, rewound, Fine, Holds, Each, AllGiven}
use Rattle.psac_readers.proofs.Sweeping.{one_given, all_gone}
use Rattle.psac_readers.proofs.readers.Readers.give_all.Goals as goal

pub take_off-requires-clause-walk : goal.take_off-requires-clause-walk
take_off-requires-clause-walk c =
    let p = c.pass.invariant.1.mods_is in
    let e = ap (λ (u : ReadersView). u.mods) (ap (λ p. p.knows) c.pass.view_is ∙ c.rewind.ensures.rewound) in
    subst (Member c.loop-m.m) (sym c.loop-m.invariant.2.sets) (c.requires.sets c.loop-m.m (omega (arith, c.loop-m-test.true, p, e)))

pub loop-m-preserved : goal.loop-m-preserved
loop-m-preserved c =
    let i = c.loop-m.invariant in
    let t = c.take_off.ensures in
    (t.table ∙ i.0, t.begun, subst (λ n. AllGiven n (rewound c.args.pass.now.knows) c.take_off.new.pass.knows) (sym (one_more c.loop-m.m)) (one_given c.loop-m.m (rewound c.args.pass.now.knows) c.loop-m.pass.knows c.take_off.new.pass.knows i.2 t.taken), t.whole)

pub returns-clause-empty : goal.returns-clause-empty
returns-clause-empty c =
    let e = ap (λ p. p.knows) c.pass.view_is ∙ c.rewind.ensures.rewound in
    let k = ap (λ (u : ReadersView). u.mods) e in
    all_gone c.pass.inside.links c.loop-m.m (rewound c.args.pass.now.knows) c.loop-m.pass.knows (subst (λ (u : ReadersView). Each (Fine c.pass.inside.links) u.links) e c.pass.invariant.1.fine) (subst Holds c.rewind.ensures.rewound c.rewind.ensures.holds)
    (omega (arith, c.loop-m-test.false, c.pass.invariant.1.mods_is, k)) c.loop-m.invariant.2
