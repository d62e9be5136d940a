use Rattle.std.proofs.Common.{sym, ap, subst, ◌∙◌, arith, inl}
use Rattle.psac_slots.specs.Handles.{Member}
use Rattle.psac_readers.specs.declared.view.ReadersView.{ReadersView}
use Rattle.psac_readers.specs.Chained.{mods_of}
use Rattle.psac_fork.proofs.tests.readers.given.Goals as goal

pub enter_two-entered-requires-clause-set : goal.enter_two-entered-requires-clause-set
enter_two-entered-requires-clause-set c = inl (c.requires.sets c.args.m.slot c.requires.inside)

pub leave_first-requires-clause-walk : goal.leave_first-requires-clause-walk
leave_first-requires-clause-walk c = subst (Member c.args.m.slot) (sym c.enter_two-entered.ensures.walk) (c.requires.sets c.args.m.slot c.requires.inside)

pub give_all-requires-clause-sets : goal.give_all-requires-clause-sets
give_all-requires-clause-sets c = λ x l.
    let k = c.regain-pass.ensures.counter.1 in
    let sets = ap (λ (u : ReadersView). mods_of u.walk) k ∙ (c.leave_first.ensures.walk ∙ c.enter_two-entered.ensures.walk) in
    let mods = ap (λ (u : ReadersView). u.mods) k ∙ (c.leave_first.ensures.mods ∙ c.enter_two-entered.ensures.mods) in
    subst (Member x) (sym sets) (c.requires.sets x (omega (arith, l, mods)))

pub walked-requires-clause-walk : goal.walked-requires-clause-walk
walked-requires-clause-walk c =
    let k = c.regain-pass.ensures.counter.1 in
    let sets = ap (λ (u : ReadersView). mods_of u.walk) k ∙ (c.leave_first.ensures.walk ∙ c.enter_two-entered.ensures.walk) in
    let mods = ap (λ (u : ReadersView). u.mods) k ∙ (c.leave_first.ensures.mods ∙ c.enter_two-entered.ensures.mods) in
    subst (Member c.args.m.slot) (sym (c.give_all.ensures.given.sets ∙ sets)) (c.requires.sets c.args.m.slot c.requires.inside)
