use Rattle.psac_repair.proofs.Layers.{kept_after, kept_pair, kept_block}
use Rattle.psac_repair.proofs.walk.quiet_records_are_done.Goals as goal

pub returns-clause-record : goal.returns-clause-record
returns-clause-record c = kept_after

pub returns-clause-sides : goal.returns-clause-sides
returns-clause-sides c = kept_pair

pub returns-clause-block : goal.returns-clause-block
returns-clause-block c = kept_block
