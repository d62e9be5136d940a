use Rattle.std.proofs.Common.{sym, ap, subst, ◌∙◌, arith}
use Rattle.psac_slots.specs.Handles.{Member}
use Rattle.psac_readers.specs.declared.view.ReadersView.{ReadersView}
use Rattle.psac_readers.specs.Chained.{mods_of}
use Rattle.psac_readers.specs.Steps.{learned, rewound}
use Rattle.psac_readers.proofs.Links.{mods_learn}
use Rattle.psac_readers.proofs.Sweeping.{swept_rest}
use Rattle.psac_fork.proofs.tests.readers.swept.Goals as goal

pub walked-requires-clause-inside : goal.walked-requires-clause-inside
walked-requires-clause-inside c =
    let k = c.regain-pass.ensures.counter.1 in
    let sets = ap (λ (u : ReadersView). mods_of u.walk) k ∙ (c.leave_first.ensures.walk ∙ c.enter_two-entered.ensures.walk) in
    let mods = ap (λ (u : ReadersView). u.mods) k ∙ (c.leave_first.ensures.mods ∙ c.enter_two-entered.ensures.mods) in
    let s = c.sweep.ensures.swept in
    let e = ap (λ (u : ReadersView). u.mods) s.becomes ∙ ((swept_rest s.gone (learned c.args.m.slot s.chain (rewound c.regain-pass.result.knows))).0 ∙ mods) in
    let i = c.requires.inside in
    omega (arith, e, i)

pub walked-requires-clause-walk : goal.walked-requires-clause-walk
walked-requires-clause-walk c =
    let k = c.regain-pass.ensures.counter.1 in
    let sets = ap (λ (u : ReadersView). mods_of u.walk) k ∙ (c.leave_first.ensures.walk ∙ c.enter_two-entered.ensures.walk) in
    let mods = ap (λ (u : ReadersView). u.mods) k ∙ (c.leave_first.ensures.mods ∙ c.enter_two-entered.ensures.mods) in
    let s = c.sweep.ensures.swept in
    let e = ap (λ (u : ReadersView). mods_of u.walk) s.becomes ∙ ((swept_rest s.gone (learned c.args.m.slot s.chain (rewound c.regain-pass.result.knows))).2 ∙ (mods_learn c.args.m.slot s.chain c.regain-pass.result.knows.walk ∙ sets)) in
    subst (Member c.args.m.slot) (sym e) c.requires.mine
