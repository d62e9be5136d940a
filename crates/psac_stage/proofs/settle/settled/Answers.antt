use Rattle.std.proofs.Common.{◌≡◌, length, ap, sym, ◌∙◌}
use Rattle.psac_values.specs.declared.view.ValueView.{ValueView}
use Rattle.psac_readers.specs.declared.view.ReadersView.{ReadersView}
use Rattle.psac_marks.specs.declared.view.MarksView.{MarksView}
use Rattle.psac_values.specs.Steps as values
use Rattle.psac_readers.specs.Steps as readers
use Rattle.psac_marks.specs.Steps as marks
use Rattle.psac_stage.proofs.settle.settled.Goals as goal

pub rewind-requires-clause-sole : goal.rewind-requires-clause-sole
rewind-requires-clause-sole c = let e = c.regain-values.ensures.values in (e.0, ap (λ (v : ValueView). v.claims.counter) e.1)

pub rewind-requires-2-clause-sole : goal.rewind-requires-2-clause-sole
rewind-requires-2-clause-sole c = let e = c.regain-values.ensures.readers in (e.0, ap (λ (v : ReadersView). v.claims.counter) e.1)

pub rewind-requires-3-clause-sole : goal.rewind-requires-3-clause-sole
rewind-requires-3-clause-sole c = let e = c.regain-values.ensures.marks in (e.0, ap (λ (v : MarksView). v.claims.counter) e.1)

pub invariant_of-result : goal.invariant_of-result
invariant_of-result c =
    let p = c.regain-values.result in
    let v : c.rewind.new.pass.knows.claims.branch ≡ p.values.knows.claims.branch = ap (λ (u : ValueView). u.claims.branch) c.rewind.ensures.rewound in
    let r : c.rewind-2.new.pass.knows.claims.branch ≡ p.readers.knows.claims.branch = ap (λ (u : ReadersView). u.claims.branch) c.rewind-2.ensures.rewound in
    let m : c.rewind-3.new.pass.knows.claims.branch ≡ p.marks.knows.claims.branch = ap (λ (u : MarksView). u.claims.branch) c.rewind-3.ensures.rewound in
    record {
      deep = p.deep ∙ ap length (sym v);
      beside = r ∙ p.beside ∙ sym v;
      beside_marks = m ∙ p.beside_marks ∙ sym v;
    }

pub returns-clause-settles : goal.returns-clause-settles
returns-clause-settles c =
    let v = c.regain-values.ensures.values in
    let r = c.regain-values.ensures.readers in
    let m = c.regain-values.ensures.marks in
    record {
      mods = v.0;
      drew_mods = v.2;
      values = c.rewind.ensures.rewound ∙ ap values.rewound v.1;
      whole_mods = c.rewind.ensures.whole;
      links = r.0;
      drew_links = r.2;
      readers = c.rewind-2.ensures.rewound ∙ ap readers.rewound r.1;
      whole_links = c.rewind-2.ensures.whole;
      holds = c.rewind-2.ensures.holds;
      nodes = m.0;
      drew_nodes = m.2;
      marks = c.rewind-3.ensures.rewound ∙ ap marks.rewound m.1;
      whole_nodes = c.rewind-3.ensures.whole;
      holds_nodes = c.rewind-3.ensures.holds;
      closed = c.rewind-3.ensures.closed;
    }
