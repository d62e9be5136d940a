-- The dump of a kept record.
use Rattle.std.specs.Prelude.{List, [], ℕ}
use Rattle.psac_syntax.specs.declared.program.Program.{Program}
use Rattle.psac_inputs.specs.Grid.{Grid}
use Rattle.psac_inputs.specs.Texts.{Texts}
use Rattle.psac_record.specs.declared.record.Record.{Record}
use Rattle.psac_record.specs.Shown.{rec_of}
use Rattle.psac_report.specs.Dump.{dump}
use Rattle.psac_stage.specs.Places.{run_of}
use Rattle.psac_engine.specs.Sound.{world_with}

-- main's destinations
abbrev pub dests_of : Program → List ℕ
dests_of p = (world_with p []).main.dests

-- the dump of the tree that a record shows over a grid
abbrev pub record_dump : Program → Grid → Texts → Record → List ℕ
record_dump p g texts r = dump p.names texts (run_of g (dests_of p) (rec_of r)).tree
