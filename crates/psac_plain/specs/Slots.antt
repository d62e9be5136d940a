-- How the plain evaluator keeps modifiables: each is a place in a list, and a new one is the next place.
use Rattle.std.specs.Prelude.{◌≡◌, ℕ, true, ◌+◌, ◌*◌, List, [], ◌∷◌, ◌++◌, length, map, Option, Some, None, Result, Ok, Err, slice_get, slice_set}
use Rattle.psac_ops.specs.declared.plain.Handle.{Handle}
use Rattle.psac_ops.specs.declared.plain.Plain.{Plain}
use Rattle.psac_ops.specs.Value.{Value}
use Rattle.psac_ops.specs.Named.{value_of, same_handle}
use Rattle.psac_plain.specs.declared.opening.Opening.{Opening}
use Rattle.psac_model.specs.declared.ends.FaultKind.{FaultKind}
use Rattle.psac_plain.specs.declared.halt.Halt.{Halt}
use Rattle.psac_plain.specs.declared.halt.Halt.TheVariants as halt
use Rattle.psac_plain.specs.declared.binding.Binding.{Binding}
use Rattle.psac_syntax.specs.declared.program.Stmt.{Stmt}
use Rattle.psac_model.specs.Names.{Env}
use Rattle.psac_model.specs.Expression.{Setting}
use Rattle.psac_model.specs.Run.{Store}

-- what a function returned, seen by view, is what the definition gives, unless memory ran out
abbrev pub Halts : {Y : Type 0} → Halt → Result Y FaultKind → Type 0
Halts halt.NoMemory told = Unit {0}
Halts (halt.Fault k) told = told ≡ Err k

abbrev pub Gives : {X Y : Type 0} → (X → Y) → Result X Halt → Result Y FaultKind → Type 0
Gives view (Ok x) told = told ≡ Ok (view x)
Gives view (Err e) told = Halts e told

abbrev pub pair_of : Binding → ℕ × Value Handle
pair_of b = (b.name, value_of b.value)

abbrev pub env_of : List Binding → Env Handle
env_of = map pair_of

abbrev pub cell_place : ℕ → ℕ → ℕ → Handle
cell_place cols r c = record { slot = r * cols + c; generation = 0 }

abbrev pub setting_by : Opening → Setting Handle
setting_by o =
    record { opened = o.opened; room = o.room; cols = o.cols; texts = o.texts.now; cell = cell_place o.cols; row_count = o.row_count; same = same_handle }

-- what is left of an environment, which counts only where a statement follows
abbrev pub IsKept : List Stmt → List Binding → List Binding → Type 0
IsKept [] old new = Unit {0}
IsKept (s ∷ rest) old new = new ≡ old

-- an environment that was bound, unless memory ran out
abbrev pub Binds : Result (Unit {0}) Halt → Result (Env Handle) FaultKind → Env Handle → Type 0
Binds (Ok done) told env = told ≡ Ok env
Binds (Err e) told env = Halts e told

abbrev pub Places : Type 0
Places = List (Option (Value Handle))

abbrev pub joined : {A : Type 0} → Option (Option A) → Option A
joined (Some (Some x)) = Some x
joined _ = None

abbrev pub slots : Store Handle Places
slots = record {
  fresh = λ path heap. record { slot = length heap; generation = 0 };
  opened = λ heap m. heap ++ None ∷ [];
  get = λ heap m. joined (slice_get heap m.slot);
  put = λ heap m v. slice_set heap m.slot (Some v);
  left_first = λ path. true;
}

abbrev pub map_plain : Option Plain → Option (Value Handle)
map_plain (Some v) = Some (value_of v)
map_plain None = None

-- items that were had before
abbrev pub after_those : {A : Type 0} → List A → Result (List A) FaultKind → Result (List A) FaultKind
after_those front (Ok xs) = Ok (front ++ xs)
after_those front (Err k) = Err k
