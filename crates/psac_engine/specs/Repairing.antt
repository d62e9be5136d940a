-- When the record that an engine keeps is a repair of the one that it kept.
use Rattle.std.specs.Prelude.{◌≡◌, Some}
use Rattle.psac_fork.specs.declared.tables.Pass.{Pass}
use Rattle.psac_model.specs.declared.ends.Work.{Work}
use Rattle.psac_record.specs.declared.record.Record.{Record}
use Rattle.psac_record.specs.Shown.{kept_of}
use Rattle.psac_repair.specs.Going.{views}
use Rattle.psac_engine.specs.declared.engine.Engine.{Engine}
use Rattle.psac_engine.specs.Engine.{grid_in, world_in}
use Rattle.psac_engine.specs.Repaired.{Repaired, IsSpent}

-- the record that an engine keeps is repaired, over its grid, from the one that the engine before kept, with no more looks
-- and asks than this work tells
pub record IsRepaired (e f : Engine) (work : Work) : Type 0 where
  pub old : Record
  pub new : Record
  pub before : Pass
  pub after : Pass
  pub kept : e.kept ≡ Some old
  pub keeps : f.kept ≡ Some new
  pub had : e.pass ≡ Some before
  pub has : f.pass ≡ Some after
  pub repaired : Repaired (world_in f) (grid_in f) (kept_of old) (kept_of new) (views before) (views after)
  pub spent : IsSpent work (kept_of old) (kept_of new) (views before) (views after)
