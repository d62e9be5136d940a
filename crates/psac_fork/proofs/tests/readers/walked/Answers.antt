use Rattle.std.proofs.Common.{sym, ap, subst, ◌∙◌}
use Rattle.psac_slots.specs.Handles.{Member}
use Rattle.psac_readers.specs.declared.view.ReadersView.{ReadersView}
use Rattle.psac_readers.specs.Chained.{mods_of}
use Rattle.psac_readers.proofs.Links.{mods_learn}
use Rattle.psac_fork.proofs.tests.readers.walked.Goals as goal

pub returns-clause-walk : goal.returns-clause-walk
returns-clause-walk c =
    let f = c.first-at.ensures.first in
    let s = c.step-five.ensures.same ∙ (c.step-four.ensures.same ∙ (c.step-three.ensures.same ∙ (c.step-two.ensures.same ∙ c.step-one.ensures.same))) in
    subst (Member c.args.m.slot) (sym (ap (λ p. mods_of p.knows.walk) s ∙ (ap (λ (v : ReadersView). mods_of v.walk) f.1 ∙ mods_learn c.args.m.slot f.0 c.args.pass.now.knows.walk))) c.requires.walk
