-- What a pass of all tables needs.
use Rattle.std.specs.Prelude.{◌≡◌, List, [], ◌∷◌, ◌++◌, Bool, true, false}
use Rattle.psac_fork.specs.declared.tables.Pass.{Pass}
use Rattle.psac_fork.specs.declared.tables.Tables.{Tables}

-- each part is a pass of its table
abbrev pub IsOf : Pass → Tables → Type 0
IsOf p t = (p.values.table ≡ t.values) × (p.readers.table ≡ t.readers) × (p.marks.table ≡ t.marks)

-- in no table it has drawn an index past the room
abbrev pub HasRoom : Pass → Type 0
HasRoom p = (p.values.knows.claims.over ≡ 0) × (p.readers.knows.claims.over ≡ 0) × (p.marks.knows.claims.over ≡ 0)

-- the two sides of a fork at a branch
abbrev pub AreSides : List Bool → Pass → Pass → Type 0
AreSides b left right = (left.values.knows.claims.branch ≡ b ++ false ∷ []) × (right.values.knows.claims.branch ≡ b ++ true ∷ [])

-- both are passes of the same tables
abbrev pub AreOfOne : Pass → Pass → Type 0
AreOfOne p q = (q.values.table ≡ p.values.table) × (q.readers.table ≡ p.readers.table) × (q.marks.table ≡ p.marks.table)
