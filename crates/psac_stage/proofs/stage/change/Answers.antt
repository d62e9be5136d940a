use Rattle.psac_stage.proofs.Changing.{changes_one}
use Rattle.psac_stage.proofs.stage.change.Goals as goal

pub returns-clause-changes : goal.returns-clause-changes
returns-clause-changes c =
    let r = c.raise_readers.ensures in
    changes_one c.args.slot c.args.value c.args.values.now.knows _ c.args.readers.now.knows _ c.args.marks.now.knows _ r.sets.0
    r.sets.1 r.raised c.put_value.ensures.stored
