-- What storing values does to what a pass knows.
use Rattle.std.specs.Prelude.{◌≡◌, ◌≢◌, ℕ, ◌+◌, ◌*◌, List, map, Some}
use Rattle.psac_ops.specs.declared.plain.Plain.{Plain}
use Rattle.psac_ops.specs.declared.plain.Handle.{Handle}
use Rattle.psac_values.specs.declared.view.OwnedView.{OwnedView}
use Rattle.psac_values.specs.declared.view.ValueView.{ValueView}
use Rattle.psac_inputs.specs.Grid.{Grid, cell}
use Rattle.psac_stage.specs.Holding.{value_in}

-- the words of each cell are the grid's
abbrev pub HasCells : Grid → ValueView → Type 0
HasCells g v = (r c : ℕ) (x : Plain) → cell r c g ≡ Some x → value_in (r * g.cols + c) v.mine ≡ Some x

-- the modifiables of a list of those that a pass may write
abbrev pub handles : List OwnedView → List Handle
handles = map (λ (w : OwnedView). w.of)

-- nothing but words changed, and none were looked at
pub record SameSlots (v u : ValueView) : Type 0 where
  pub claims : u.claims ≡ v.claims
  pub fixed : u.fixed ≡ v.fixed
  pub known : u.known ≡ v.known
  pub slots : handles u.mine ≡ handles v.mine
  pub looks : u.looks ≡ v.looks

-- a slot has this value, and no other slot's words changed
pub record Stored (s : ℕ) (x : Plain) (v u : ValueView) : Type 0 where
  pub same : SameSlots v u
  pub here : value_in s u.mine ≡ Some x
  pub others : (k : ℕ) → k ≢ s → value_in k u.mine ≡ value_in k v.mine
