-- What a pass is to a contract.
use Rattle.atomic_table.specs.Seated.{TableId}

-- the table that a pass is of, and what the pass knows
pub record Pass (V : Type 0) : Type 0 where
  pub table : TableId
  pub knows : V
