use Rattle.std.proofs.Common.{◌≡◌, length, sym, ap, ◌∙◌, subst}
use Rattle.psac_values.specs.declared.view.ValueView.{ValueView}
use Rattle.psac_marks.specs.declared.view.MarksView.{MarksView}
use Rattle.psac_readers.specs.declared.view.ReadersView.{ReadersView}
use Rattle.psac_slots.specs.declared.view.ClaimView.{ClaimView}
use Rattle.psac_slots.specs.Claiming as claiming
use Rattle.psac_values.specs.Steps as values
use Rattle.psac_marks.specs.Steps as marks
use Rattle.psac_readers.specs.Steps as readers
use Rattle.psac_reclaim.specs.Owed.{ValuesNone, ReadersNone, MarksNone}
use Rattle.psac_reclaim.proofs.Cleaning.{swept_claims}
use Rattle.psac_reclaim.proofs.Ending.{values_none_left, readers_none_left, marks_none_left}
use Rattle.psac_reclaim.proofs.give.reset.Goals as goal

pub rewind-requires-2-clause-sole : goal.rewind-requires-2-clause-sole
rewind-requires-2-clause-sole c = let g = c.give_all-2.ensures.given in (0, ap (λ (u : ClaimView). u.counter) g.claims ∙ (swept_claims g.gone (readers.rewound c.args.pass.readers.knows)).0)

pub invariant_of-result : goal.invariant_of-result
invariant_of-result c =
    let g = c.give_all-2.ensures.given in
    let v : c.rewind.new.pass.knows.claims.branch ≡ c.args.pass.values.knows.claims.branch = ap (λ (u : ValueView). u.claims.branch) c.rewind.ensures.rewound ∙ ap (λ (u : ValueView). u.claims.branch) c.give_all.ensures.gave in
    let r : c.rewind-2.new.pass.knows.claims.branch ≡ c.args.pass.readers.knows.claims.branch = ap (λ (u : ReadersView). u.claims.branch) c.rewind-2.ensures.rewound ∙ ap (λ (u : ClaimView). u.branch) g.claims ∙ (swept_claims g.gone (readers.rewound c.args.pass.readers.knows)).1 in
    let m : c.rewind-3.new.pass.knows.claims.branch ≡ c.args.pass.marks.knows.claims.branch = ap (λ (u : MarksView). u.claims.branch) c.rewind-3.ensures.rewound ∙ ap (λ (u : MarksView). u.claims.branch) c.give_all-3.ensures.gave in
    record {
      deep = c.args.pass.deep ∙ ap length (sym v);
      beside = r ∙ c.args.pass.beside ∙ sym v;
      beside_marks = m ∙ c.args.pass.beside_marks ∙ sym v;
    }

pub returns-clause-values : goal.returns-clause-values
returns-clause-values c =
    let v = c.args.pass.values.knows in
    let e : c.rewind.new.pass.knows ≡ values.rewound (values.gave_all (values.rewound v)) = c.rewind.ensures.rewound ∙ ap values.rewound c.give_all.ensures.gave in
    subst (λ (u : ValueView). ValuesNone v u) (sym e) (values_none_left v (subst (λ (u : ValueView). claiming.Accounted u.claims) e c.rewind.ensures.whole))

pub returns-clause-readers : goal.returns-clause-readers
returns-clause-readers c =
    let v = c.args.pass.readers.knows in
    let u = c.give_all-2.new.pass.knows in
    let e = c.rewind-2.ensures.rewound in
    let g = c.give_all-2.ensures in
    subst (λ (w : ReadersView). ReadersNone v w) (sym e) (readers_none_left v.mods v u g.given g.empty.0 g.empty.1 (subst (λ (w : ReadersView). claiming.Accounted w.claims) e c.rewind-2.ensures.whole))

pub returns-clause-marks : goal.returns-clause-marks
returns-clause-marks c =
    let v = c.args.pass.marks.knows in
    let e : c.rewind-3.new.pass.knows ≡ marks.rewound (marks.gave_all (marks.rewound v)) = c.rewind-3.ensures.rewound ∙ ap marks.rewound c.give_all-3.ensures.gave in
    subst (λ (u : MarksView). MarksNone v u) (sym e) (marks_none_left v (subst (λ (u : MarksView). claiming.Accounted u.claims) e c.rewind-3.ensures.whole))
