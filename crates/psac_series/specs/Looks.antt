-- A run none of whose looks misses.
use Rattle.std.specs.Prelude.{◌≡◌, ◌↔◌}
use Rattle.psac_inputs.specs.Grid.{Grid}
use Rattle.psac_model.specs.declared.ends.End.TheVariants.{Done}
use Rattle.psac_model.specs.Names.{Path, Name, held}
use Rattle.psac_model.specs.Fresh.{World, fresh}
use Rattle.psac_series.specs.Ways.{Way, FindsHeld, fresh_by}

-- whatever a look gives for names that the heap lacks, and in whatever order the sides of each par run
pub record FindsEachName (w : World) (g : Grid) : Type 0 where
  -- the tree and each name's value are the fresh run's
  pub tree : (a : Way) → FindsHeld a → (fresh_by a w g).tree ≡ (fresh w g).tree
  pub heap : (a : Way) → FindsHeld a → (m : Name) → held (fresh_by a w g).heap m ≡ held (fresh w g).heap m
  -- the run is done where the fresh run is
  pub done : (a : Way) → FindsHeld a → (fresh_by a w g).end ≡ Done ↔ (fresh w g).end ≡ Done
  -- how it ends hangs on nothing but whose stop is told, so each side of a par has an end of its own
  pub end : (a b : Way) → FindsHeld a → FindsHeld b → ((path : Path) → a.left_told path ≡ b.left_told path)
      → (fresh_by a w g).end ≡ (fresh_by b w g).end
