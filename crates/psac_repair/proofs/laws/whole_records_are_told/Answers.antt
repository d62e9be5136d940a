use Rattle.psac_repair.proofs.Whole.{whole_told, base_seen, drawn_given}
use Rattle.psac_repair.proofs.laws.whole_records_are_told.Goals as goal

pub returns-clause-whole : goal.returns-clause-whole
returns-clause-whole c = whole_told

pub returns-clause-seen : goal.returns-clause-seen
returns-clause-seen c = base_seen

pub returns-clause-drawn : goal.returns-clause-drawn
returns-clause-drawn c = drawn_given
