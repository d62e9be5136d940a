-- What an engine holds.
use Rattle.std.specs.Prelude.{◌≡◌, ℕ, Option, None, IfSome, option_map}
use Rattle.psac_inputs.specs.Grid.{Grid}
use Rattle.psac_model.specs.declared.ends.Caps.{Caps}
use Rattle.psac_model.specs.Names.{Name, Heap}
use Rattle.psac_model.specs.Run.{Ran}
use Rattle.psac_model.specs.Fresh.{World, Good, fresh, outcome}
use Rattle.psac_engine.specs.Sound.{world_with}
use Rattle.psac_engine.specs.declared.engine.Engine.{Engine}

-- the program with its texts and its main
abbrev pub world_in : Engine → World
world_in e = world_with e.program e.consts.items

abbrev pub caps_in : Engine → Caps
caps_in e = e.caps

abbrev pub grid_in : Engine → Grid
grid_in e = e.grid

-- the run that is kept, if one is
abbrev pub kept_in : Engine → Option (Ran Name Heap)
kept_in e = option_map (λ r. fresh (world_in e) e.grid) e.kept

-- how many commits there were
abbrev pub commits_in : Engine → ℕ
commits_in e = e.commits

-- an engine in which nothing has run
pub record IsOpened (most : Caps) (g : Grid) (e : Engine) : Type 0 where
  pub caps : caps_in e ≡ most
  pub grid : grid_in e ≡ g
  pub kept : kept_in e ≡ None
  pub commits : commits_in e ≡ 0

-- a run that is kept is the fresh run of the present grid, and it ends well within the caps
abbrev pub IsSettled : Engine → Type 0
IsSettled e = IfSome (kept_in e) (λ r. (r ≡ fresh (world_in e) (grid_in e)) × (outcome (world_in e) (caps_in e) (grid_in e) ≡ Good r.tree r.heap))
