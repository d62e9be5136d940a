-- What a list of dropped subtrees shows.
use Rattle.std.specs.Prelude.{List, ◌++◌, reverse}
use Rattle.psac_record.specs.declared.dropped.Dropped.{Dropped}
use Rattle.psac_record.specs.Kept.{Kept}
use Rattle.psac_record.specs.Shown.{chain_of}

-- the subtrees in order; those at the back stand in their chain last first
abbrev pub dropped_of : Dropped → List Kept
dropped_of d = chain_of d.front ++ reverse (chain_of d.back)
