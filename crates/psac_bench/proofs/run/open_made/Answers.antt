use Rattle.std.proofs.Common.{refl}
use Rattle.psac_engine.specs.Engine.{world_in}
use Rattle.psac_bench.proofs.run.open_made.Goals as goal

pub returns : goal.returns
returns c =
    record {
      world = world_in c.in_ok-engine.engine;
      grid = c.in_ok-grid.grid;
      opens = record {
        ids = c.in_ok-consts.consts.items;
        enters = record { added = rw (c.as_slice.ensures, c.program-2.ensures.same, c.in_ok-texts.ensures) at c.in_ok-consts.ensures.added };
        world = c.in_ok-engine.ensures.world;
        grid = c.in_ok-grid.ensures;
      };
      engine = c.in_ok-engine.ensures.opened;
      engine_world = refl;
    }
