-- What the series rule gives of a fresh run.
use Rattle.std.specs.Prelude.{◌≡◌, ◌≤◌, true, []}
use Rattle.psac_inputs.specs.Grid.{Grid}
use Rattle.psac_model.specs.Names.{Name, Heap, held}
use Rattle.psac_model.specs.Run.{run, Ran, Manner, by_path_in}
use Rattle.psac_model.specs.Fresh.{World, fresh, setting, levels, main_env, grid_heap}
use Rattle.psac_laws.specs.Writes.{times}
use Rattle.psac_laws.specs.Manners.{ReadsHeld}
use Rattle.psac_laws.specs.Places.{is_input, WritesOnce, ReadsAfterWrites}

-- the fresh run, where names are read and the sides of each par are ordered in another manner
unfoldable pub fresh_in : Manner → World → Grid → Ran Name Heap
fresh_in a w g = run (by_path_in a) (setting w.texts g) w.program.funcs levels w.main.body (main_env 0 w.main.dests []) (grid_heap g) []

pub record IsInSeries (w : World) (g : Grid) : Type 0 where
  -- no name is written twice: at most one part writes it
  pub once : (m : Name) → times m (fresh w g).tree ≤ 1
  pub alone : WritesOnce (fresh w g).tree
  -- no input is written
  pub inputs : (m : Name) → is_input m ≡ true → times m (fresh w g).tree ≡ 0
  -- whatever names that the heap lacks are read as, and whichever side of each par is run first, the tree, the end and each name's value are the same
  pub tree : (a : Manner) → ReadsHeld a → (fresh_in a w g).tree ≡ (fresh w g).tree
  pub end : (a : Manner) → ReadsHeld a → (fresh_in a w g).end ≡ (fresh w g).end
  pub heap : (a : Manner) → ReadsHeld a → (m : Name) → held (fresh_in a w g).heap m ≡ held (fresh w g).heap m
  -- each block that reads a made name or an output stands after its write, and no P has the two on different sides
  pub order : ReadsAfterWrites (fresh w g).tree
