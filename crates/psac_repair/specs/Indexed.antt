-- The read blocks of a program in a table, each at its number.
use Rattle.std.specs.Prelude.{◌≡◌, ◌≢◌, ◌⊎◌, List, [], ◌∷◌, Some, Contains, slice_get}
use Rattle.std.specs.Borrow.{Bor}
use Rattle.psac_syntax.specs.declared.program.Func.{Func}
use Rattle.psac_syntax.specs.declared.program.ReadItem.{ReadItem}
use Rattle.psac_syntax.specs.declared.program.Stmt.{Stmt}
use Rattle.psac_traced.specs.Blocks.{Block, blocks_of}

-- a read block of the table: what it reads, and its body
abbrev pub Code : Type 0
Code = Bor (List ReadItem) × Bor (List Stmt)

-- this block is in the table, at its number
abbrev pub IsAt : List Code → Block → Type 0
IsAt codes b = (code : Code) × (slice_get codes b.0 ≡ Some code) × (code.0.now ≡ b.1) × (code.1.now ≡ b.2)

-- what is in the table once this block is put there
abbrev pub With : Block → (Block → Type 0) → Block → Type 0
With x before b = (b ≡ x) ⊎ ((b.0 ≢ x.0) × before b)

-- the same of these blocks, the first one first
abbrev pub WithAll : List Block → (Block → Type 0) → Block → Type 0
WithAll [] before b = before b
WithAll (x ∷ later) before b = WithAll later (With x before) b

abbrev pub ArePut : List Block → List Code → List Code → Type 0
ArePut blocks before after = (b : Block) → WithAll blocks (IsAt before) b → IsAt after b

-- each read block of these functions is in the table, at its number
abbrev pub AreIndexed : List Func → List Code → Type 0
AreIndexed funcs codes = (b : Block) → Contains (blocks_of funcs) b → IsAt codes b
