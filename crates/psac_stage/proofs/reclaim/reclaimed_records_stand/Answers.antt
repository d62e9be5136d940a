use Rattle.psac_stage.proofs.Left.{grid_stands, mods_stand}
use Rattle.psac_stage.proofs.Slots.{slots_recorded}
use Rattle.psac_stage.proofs.reclaim.reclaimed_records_stand.Goals as goal

pub returns-clause-grid : goal.returns-clause-grid
returns-clause-grid c = grid_stands

pub returns-clause-mods : goal.returns-clause-mods
returns-clause-mods c = mods_stand

pub returns-clause-slots : goal.returns-clause-slots
returns-clause-slots c = slots_recorded
