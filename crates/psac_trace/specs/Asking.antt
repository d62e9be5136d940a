-- What a statement's reads need, and what asking leaves of a pass.
use Rattle.std.specs.Prelude.{◌≡◌, ℕ, zero, suc, ◌+◌, List, [], ◌∷◌, length, map, Some, Result, Ok}
use Rattle.psac_ops.specs.declared.plain.Handle.{Handle}
use Rattle.psac_ops.specs.declared.plain.TextId.{TextId}
use Rattle.psac_ops.specs.Value.{Value, ref}
use Rattle.psac_ops.specs.Named.{value_of as plain_value, same_handle}
use Rattle.psac_ops.specs.Table.{◌>>=◌}
use Rattle.psac_syntax.specs.declared.program.Stmt.{Stmt}
use Rattle.psac_syntax.specs.declared.program.Stmt.TheOpen.{Stmt-F}
use Rattle.psac_syntax.specs.declared.program.ReadItem.{ReadItem}
use Rattle.psac_values.specs.declared.view.ValueView.{ValueView}
use Rattle.psac_model.specs.declared.ends.FaultKind.{FaultKind}
use Rattle.psac_model.specs.Names.{Env}
use Rattle.psac_model.specs.Expression.{Setting, value_of}
use Rattle.psac_model.specs.Run.{Action, Block, target}
use Rattle.psac_plain.specs.declared.ask.Seen.{Seen}
use Rattle.psac_plain.specs.Slots.{cell_place}
use Rattle.psac_trace.specs.declared.ground.Ground.{Ground}
use Rattle.psac_trace.specs.Rights.{Heap, held, Sees}

-- what expressions read over a grid, with these texts
abbrev pub setting_on : Ground → List TextId → Setting Handle
setting_on g texts =
    record { opened = g.opened; room = g.room; cols = g.cols; texts = texts; cell = cell_place g.cols; row_count = g.row_count; same = same_handle }

-- the modifiable that is read has a value in the heap, which the pass knows
abbrev pub Sought : Setting Handle → Env Handle → ValueView → Heap → ReadItem → Type 0
Sought w env v heap item = (m : Handle) → value_of w env item.from ≡ Ok (ref m) → (x : Value Handle) × (held heap m ≡ Some x) × Sees v m x

abbrev pub AllSought : Setting Handle → Env Handle → ValueView → Heap → List ReadItem → Type 0
AllSought w env v heap [] = Unit {0}
AllSought w env v heap (item ∷ items) = Sought w env v heap item × AllSought w env v heap items

abbrev pub Readable : Setting Handle → Env Handle → ValueView → Heap → Stmt-F Stmt → Type 0
Readable w env v heap (Stmt-F.Read line block items body) = AllSought w env v heap items
Readable w env v heap _ = Unit {0}

-- the modifiable that a read names
abbrev pub source : Setting Handle → Env Handle → ReadItem → Result Handle FaultKind
source w env item = value_of w env item.from >>= target

abbrev pub sources_in : List Seen → List Handle
sources_in = map (λ (s : Seen). s.from)

-- the pass knows a value of each
abbrev pub AllSeen : ValueView → List Seen → Type 0
AllSeen v [] = Unit {0}
AllSeen v (s ∷ seen) = ((x : Value Handle) × Sees v s.from x) × AllSeen v seen

-- the same modifiable, with the value that the pass knows of it
pub record IsSeen (v : ValueView) (s r : Seen) : Type 0 where
  pub from : r.from ≡ s.from
  pub value : (x : Value Handle) → Sees v s.from x → plain_value r.value ≡ x

-- so it is of the first so many; the others are the same
abbrev pub SeenFirst : ValueView → ℕ → List Seen → List Seen → Type 0
SeenFirst v n [] [] = Unit {0}
SeenFirst v n [] (r ∷ rs) = ⊥
SeenFirst v n (s ∷ ss) [] = ⊥
SeenFirst v zero (s ∷ ss) (r ∷ rs) = (r ≡ s) × SeenFirst v zero ss rs
SeenFirst v (suc n) (s ∷ ss) (r ∷ rs) = IsSeen v s r × SeenFirst v n ss rs

-- after so many looks
abbrev pub looked_by : ℕ → ValueView → ValueView
looked_by n v = record v { looks = v.looks + n }

-- nothing but the number of looks has changed
abbrev pub Looked : ValueView → ValueView → Type 0
Looked v u = (n : ℕ) × (u ≡ record v { looks = n })

-- how often was looked for what a statement asks for: once at each read
abbrev pub looks_for : Action Handle → ℕ
looks_for (Block block reads body inner) = length reads
looks_for a = 0
