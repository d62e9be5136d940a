use Rattle.std.proofs.Common.{ap, ◌∙◌}
use Rattle.psac_readers.specs.declared.view.ReadersView.{ReadersView}
use Rattle.psac_readers.specs.Chained.{mods_of}
use Rattle.psac_readers.proofs.Entering.{same_sets}
use Rattle.psac_fork.proofs.tests.readers.enter_two.Goals as goal

pub enter-requires-2-clause-set : goal.enter-requires-2-clause-set
enter-requires-2-clause-set c = c.in-Ok.ensures.has c.args.m.slot c.requires.set

pub returns-in_default-enter-clause-walk : goal.returns-in_default-enter-clause-walk
returns-in_default-enter-clause-walk c = ap (λ (v : ReadersView). mods_of v.walk) c.in_default-enter.ensures.full.2 ∙ same_sets _ _ _ _ _ _ c.in-Ok.ensures.ok.3

pub returns-clause-walk : goal.returns-clause-walk
returns-clause-walk c = same_sets _ _ _ _ _ _ c.in-Ok-enter.ensures.ok.3 ∙ same_sets _ _ _ _ _ _ c.in-Ok.ensures.ok.3
