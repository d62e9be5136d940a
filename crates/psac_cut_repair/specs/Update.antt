-- A kept record of a program that meets the series rule, and the inputs that are present.
use Rattle.std.specs.Prelude.{◌≡◌, ◌≤◌, ◌≢◌, ℕ, ◌⊎◌, List, [], All, AllPairs, Contains, length, Ok, Some}
use Rattle.psac_syntax.specs.declared.program.Stmt.{Stmt}
use Rattle.psac_inputs.specs.Grid.{Grid}
use Rattle.psac_model.specs.declared.ends.End.{End}
use Rattle.psac_model.specs.declared.ends.End.TheVariants.{Done}
use Rattle.psac_model.specs.declared.ends.Size.{Size}
use Rattle.psac_model.specs.declared.ends.Caps.{Caps}
use Rattle.psac_model.specs.Names.{Env}
use Rattle.psac_model.specs.Expression.{Setting}
use Rattle.psac_model.specs.Fresh.{World, main_of, setting as inputs_of, levels, main_env, grid_heap, nodes_of}
use Rattle.psac_model.specs.Series.{meets}
use Rattle.psac_naming.specs.Alike.{Envs, Settings}
use Rattle.psac_naming.specs.Naming.{Naming, IsNamed, IsOneToOne, IsSameTest, Unused}
use Rattle.psac_traced.specs.Rec.{Rec, HeapOf}
use Rattle.psac_traced.specs.Traced.{traced}
use Rattle.psac_traced.specs.Renamed.{Heaps}
use Rattle.psac_traced.specs.Places.{Makes, IsApart, HasName}
use Rattle.psac_traced.specs.Mending.{mended}
use Rattle.psac_traced.specs.Mended.{Mended}
use Rattle.psac_traced.specs.Bodies.{IsCode}
use Rattle.psac_cut_repair.specs.CutMended.{CutMended}

-- a run over one grid left the record, and another grid with as many rows and columns is present
pub record Update (M : Type 0) (w : World) (g h : Grid) : Type 0 where
  pub rule : meets w.program ≡ Ok tt
  pub main : main_of w.program ≡ Some w.main
  pub whole : length h.cells ≡ h.room
  pub even : All (λ row. length row ≡ h.cols) h.cells
  pub still : inputs_of w.texts g ≡ inputs_of w.texts h
  -- the inputs and outputs, with the names that they stand for
  pub setting : Setting M
  pub same : IsSameTest setting.same
  pub base : Naming M
  pub one : IsOneToOne base
  pub inputs : Settings (IsNamed base) setting (inputs_of w.texts g)
  pub unused : Unused [] base
  pub env : Env M
  pub envs : Envs (IsNamed base) env (main_env 0 w.main.dests [])
  -- the heaps over both grids
  pub heap : HeapOf M
  pub heaps : Heaps (IsNamed base) heap (grid_heap g)
  pub other : HeapOf M
  pub others : Heaps (IsNamed base) other (grid_heap h)
  -- the record
  pub old : Rec M
  pub apart : IsApart old
  pub outside : (m : M) → HasName base m → Makes old m → ⊥
  pub left_it : traced setting w.program.funcs levels w.main.body env heap old Done

module _ {M : Type 0} {w : World} {g h : Grid} (u : Update M w g h) where
  -- the statements that main may come to
  abbrev pub Code : List Stmt → Type 0
  Code = IsCode w.program.funcs w.main.body

  -- a repair over the present inputs, and one that was cut short
  abbrev pub Repairs : Rec M → End → Type 0
  Repairs new end = Mended u.setting w.program.funcs Code u.other u.old new end

  abbrev pub CutsShort : Rec M → ℕ → Type 0
  CutsShort new n = CutMended u.setting w.program.funcs Code u.other u.old new n

  -- what it made was new, and was made once
  pub record IsNew (new : Rec M) : Type 0 where
    pub distinct : AllPairs (λ x y. x ≢ y) (mended u.setting.same u.old new).created
    pub anew : (m : M) → Contains (mended u.setting.same u.old new).created m → HasName u.base m ⊎ Makes u.old m → ⊥

-- of each kind that has a cap, at most so many
pub record IsInCaps (z : Size) (caps : Caps) : Type 0 where
  pub nodes : nodes_of z ≤ caps.nodes
  pub mods : z.mods ≤ caps.mods
  pub links : z.links ≤ caps.links
