-- How a run may read names and order the sides of its pars.
use Rattle.std.specs.Prelude.{◌≡◌, Some}
use Rattle.psac_ops.specs.Value.{Value}
use Rattle.psac_model.specs.Names.{Name, Heap, held}
use Rattle.psac_model.specs.Run.{Manner}

-- what the heap has is read as it is; nothing is said of other names
abbrev pub ReadsHeld : Manner → Type 0
ReadsHeld a = (h : Heap) (m : Name) (v : Value Name) → held h m ≡ Some v → a.get h m ≡ Some v
