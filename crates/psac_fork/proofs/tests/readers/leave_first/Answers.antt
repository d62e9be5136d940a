use Rattle.std.proofs.Common.{ap, ◌∙◌}
use Rattle.psac_readers.specs.declared.view.ReadersView.{ReadersView}
use Rattle.psac_readers.specs.Chained.{mods_of}
use Rattle.psac_readers.proofs.Links.{mods_learn}
use Rattle.psac_fork.proofs.tests.readers.leave_first.Goals as goal

pub returns-in-Some-clause-walk : goal.returns-in-Some-clause-walk
returns-in-Some-clause-walk c =
    let f = c.first.ensures.first in
    ap (λ (v : ReadersView). mods_of v.walk) c.leave.ensures.left ∙ (ap (λ (v : ReadersView). mods_of v.walk) f.1 ∙ mods_learn c.args.m.slot f.0 c.args.pass.now.knows.walk)

pub returns-in_default-clause-walk : goal.returns-in_default-clause-walk
returns-in_default-clause-walk c =
    let f = c.first.ensures.first in
    ap (λ (v : ReadersView). mods_of v.walk) f.1 ∙ mods_learn c.args.m.slot f.0 c.args.pass.now.knows.walk
