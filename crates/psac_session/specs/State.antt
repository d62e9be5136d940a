-- The state of a session, by its engine, what is staged and its texts.
use Rattle.std.specs.Prelude.{List, Option, None, option_map, replicate}
use Rattle.psac_inputs.specs.Batch.{Batch, empty_batch, put_all}
use Rattle.psac_inputs.specs.Texts.{Texts}
use Rattle.psac_model.specs.Names.{Name, Heap}
use Rattle.psac_model.specs.Run.{Ran}
use Rattle.psac_report.specs.Session.{Kept, Place, State, place_count}
use Rattle.psac_engine.specs.declared.engine.Engine.{Engine}
use Rattle.psac_engine.specs.Engine.{grid_in, kept_in}

abbrev pub kept_of : Ran Name Heap → Kept
kept_of r = record { tree = r.tree; heap = r.heap }

-- no place holds anything
unfoldable pub no_places : List (Option Place)
no_places = replicate place_count None

abbrev pub state_at : Engine → Batch → Texts → List (Option Place) → State
state_at e b texts places =
    record {
      grid = grid_in e;
      texts = texts;
      kept = option_map kept_of (kept_in e);
      staged = put_all b (grid_in e);
      places = places;
    }

abbrev pub state_with : Engine → Batch → Texts → State
state_with e b texts = state_at e b texts no_places

-- the state in which a session over an engine begins: nothing is staged
abbrev pub opening : Engine → Texts → State
opening e texts = state_with e (empty_batch (grid_in e)) texts
