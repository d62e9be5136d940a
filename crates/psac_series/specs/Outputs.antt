-- Outputs that a run leaves.
use Rattle.std.specs.Prelude.{◌≡◌, Some}
use Rattle.psac_ops.specs.Value.{Value}
use Rattle.psac_model.specs.Names.{Name, Heap, held}
use Rattle.psac_model.specs.Run.{Ran}
use Rattle.psac_laws.specs.Writes.{times}

-- a name has a value after a run, and one part of its tree wrote it
pub record IsWritten (r : Ran Name Heap) (m : Name) : Type 0 where
  pub value : Value Name
  pub has_it : held r.heap m ≡ Some value
  pub once : times m r.tree ≡ 1
