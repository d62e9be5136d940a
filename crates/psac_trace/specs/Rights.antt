-- What a pass knows and may write of modifiables, and what statements ask of it.
use Rattle.std.specs.Prelude.{◌≡◌, ◌≢◌, ℕ, ◌<◌, nat_lt, true, false, List, ◌++◌, length, Option, Some, None}
use Rattle.psac_ops.specs.declared.plain.Handle.{Handle}
use Rattle.psac_ops.specs.declared.plain.Plain.{Plain}
use Rattle.psac_ops.specs.Value.{Value, ref, pair}
use Rattle.psac_ops.specs.Named.{value_of, same_handle}
use Rattle.psac_ops.specs.Words.{of_words}
use Rattle.psac_slots.specs.Handles.{Member}
use Rattle.psac_values.specs.declared.view.KnownView.{KnownView}
use Rattle.psac_values.specs.declared.view.ValueView.{ValueView}
use Rattle.psac_values.specs.Knowing.{Has, Knows}
use Rattle.psac_model.specs.Names.{Env, bound}
use Rattle.psac_model.specs.Expression.{Setting}
use Rattle.psac_model.specs.Series.{has}
use Rattle.psac_laws.specs.Standing.{Standing}
use Rattle.psac_traced.specs.Rec.{HeapOf, held_by}

-- modifiables with their values; the first pair of a modifiable counts
abbrev pub Heap : Type 0
Heap = HeapOf Handle

abbrev pub held : Heap → Handle → Option (Value Handle)
held = held_by same_handle

abbrev pub In : Heap → Handle → Type 0
In base m = (x : Value Handle) × (held base m ≡ Some x)

-- the base has each modifiable that the value names
abbrev pub Named : Heap → Value Handle → Type 0
Named base (ref m) = In base m
Named base (pair m n) = In base m × In base n
Named base _ = Unit {0}

-- and each that a value in it names
abbrev pub Closed : Heap → Type 0
Closed base = (m : Handle) (x : Value Handle) → held base m ≡ Some x → Named base x

abbrev pub Within : Heap → (Handle → Value Handle → Type 0) → Type 0
Within base P = (m : Handle) (x : Value Handle) → held base m ≡ Some x → P m x

-- the heap has what the base has
abbrev pub Wider : Heap → Heap → Type 0
Wider base heap = Within base (λ m x. held heap m ≡ Some x)

-- the pass knows the value of the modifiable, by its words
abbrev pub Sees : ValueView → Handle → Value Handle → Type 0
Sees v m x = (ws : List ℕ) × (p : Plain) × Knows v m ws × (of_words ws ≡ Some p) × (value_of p ≡ x)

-- the pass has the modifiable beside others
abbrev pub Shares : ValueView → Handle → Type 0
Shares v m = (e : KnownView) × Member e v.known × (e.of ≡ m)

-- one slot, one handle; what is shared comes back at a join above
pub record Tidy (v : ValueView) : Type 0 where
  pub single : (m n : Handle) → Has v m → Has v n → m.slot ≡ n.slot → m ≡ n
  pub apart : (m n : Handle) → Has v m → Shares v n → m.slot ≢ n.slot
  pub one : (m n : Handle) → Shares v m → Shares v n → m.slot ≡ n.slot → m ≡ n
  pub labels : (e : KnownView) → Member e v.known → length e.label < length v.claims.branch

-- a destination that isn't written yet, and is written before only those on the list are left
abbrev pub Target : Standing → List ℕ → Env Handle → Handle → Type 0
Target st left env m = (x : ℕ) × (has x st.unwritten ≡ true) × (has x left ≡ false) × (bound x env ≡ Some (ref m))

-- the base is closed, and has the inputs and what is in scope; the pass knows its values, and may write the destinations that are to be written, which it lacks
pub record Ready (w : Setting Handle) (st : Standing) (left : List ℕ) (env : Env Handle) (v : ValueView) (base : Heap) : Type 0 where
  pub same : w.same ≡ same_handle
  pub closed : Closed base
  pub cells : (r c : ℕ) → nat_lt r w.room ≡ true → nat_lt c w.cols ≡ true → In base (w.cell r c)
  pub row_count : In base w.row_count
  pub sees : Within base (Sees v)
  pub knows : (x : ℕ) → has x st.known ≡ true → (y : Value Handle) × (bound x env ≡ Some y) × Named base y
  pub opens : (x : ℕ) → has x st.unwritten ≡ true → has x left ≡ false → (m : Handle) × (bound x env ≡ Some (ref m)) × (held base m ≡ None) × Has v m
  pub apart : (x y : ℕ) (m : Handle) → has x st.unwritten ≡ true → has x left ≡ false → has y st.unwritten ≡ true → has y left ≡ false → bound x env ≡ Some (ref m) → bound y env ≡ Some (ref m) → x ≡ y

-- from one view to another by these writes
pub record Moved (st : Standing) (left : List ℕ) (env : Env Handle) (v w : ValueView) (base ws : Heap) : Type 0 where
  pub closed : Closed (ws ++ base)
  pub sees : Within (ws ++ base) (Sees w)
  -- what was to be written is
  pub done : (m : Handle) → Target st left env m → In ws m
  -- nothing else that the pass had is
  pub spares : (m : Handle) → Has v m → In ws m → Target st left env m
  -- and what was written the pass has
  pub owned : (m : Handle) → In ws m → Has w m

-- what the pass had keeps its words, but for destinations of the statements
abbrev pub Unchanged : Standing → List ℕ → Env Handle → ValueView → ValueView → Type 0
Unchanged st left env v w = (m : Handle) (x : Value Handle) → Has v m → (Target st left env m → ⊥) → Sees v m x → Sees w m x

-- what a call leaves of a pass, however it ends
pub record Kept (v w : ValueView) : Type 0 where
  pub branch : w.claims.branch ≡ v.claims.branch
  pub fixed : w.fixed ≡ v.fixed
  pub known : w.known ≡ v.known
  pub mine : (m : Handle) → Has v m → Has w m
  pub tidy : Tidy w
