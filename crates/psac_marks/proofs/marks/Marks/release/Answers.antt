use Rattle.psac_marks.proofs.Terms.{sym, subst, Handle, Member, MarksView, Owns, Childless}
use Rattle.psac_marks.proofs.marks.Marks.release.Goals as goal

pub put_back-requires-clause-out : goal.put_back-requires-clause-out
put_back-requires-clause-out c =
    let r = c.rewind.ensures in
    let o = subst (λ (u : MarksView). Owns u c.args.node) (sym r.rewound) c.requires.own in
    subst (λ (h : Handle). Member h c.rewind.new.pass.knows.claims.held) o.2 (r.holds.out o.0 o.1)

pub put_back-requires-clause-children : goal.put_back-requires-clause-children
put_back-requires-clause-children c = subst (λ (u : MarksView). Childless u c.args.node.slot) (sym c.rewind.ensures.rewound) c.requires.children
