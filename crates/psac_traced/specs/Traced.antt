-- A run of statements as a relation: which records it may leave.
use Rattle.std.specs.Prelude.{◌≡◌, ℕ, zero, suc, List, [], ◌∷◌, ◌++◌, Result, Ok, Err, true}
use Rattle.psac_ops.specs.Value.{ref}
use Rattle.psac_syntax.specs.declared.program.Stmt.{Stmt, out-Stmt}
use Rattle.psac_syntax.specs.declared.program.Func.{Func}
use Rattle.psac_model.specs.declared.ends.FaultKind.{FaultKind}
use Rattle.psac_model.specs.declared.ends.FaultKind.TheVariants.{TooDeep}
use Rattle.psac_model.specs.declared.ends.End.{End}
use Rattle.psac_model.specs.declared.ends.End.TheVariants.{Done, Stop}
use Rattle.psac_model.specs.Names.{Env, bind}
use Rattle.psac_model.specs.Expression.{Setting}
use Rattle.psac_model.specs.Run.{Store, Action, Bind, Make, Put, Body, Block, Sides, action_of, line_of, first_stop}
use Rattle.psac_traced.specs.Rec.{Rec, E, A, W, S, P, R, HeapOf, held_by, writes}

-- the modifiables of a list, for statements that read them; none is made through it
abbrev pub listed : {N : Type 0} → Setting N → Store N (HeapOf N)
listed w =
    record { fresh = λ path heap. w.row_count; opened = λ heap m. heap; get = held_by w.same; put = λ heap m v. (m, v) ∷ heap; left_first = λ path. true }

-- what is said of statements, an environment, a heap, a record and an end
abbrev pub Traces : Type 0 → Type 1
Traces N = List Stmt → Env N → HeapOf N → Rec N → End → Type 0

module _ {N : Type 0} where
  abbrev pub stops : FaultKind → ℕ → Rec N → End → Type 0
  stops k line r end = (r ≡ E) × (end ≡ Stop k line)

  -- the rest of a body, behind a compound statement that ended so
  abbrev pub goes_on : End → Traces N → Traces N
  goes_on Done deeper rest env heap r end = deeper rest env heap r end
  goes_on (Stop k line) deeper rest env heap r end = stops k line r end

  -- a statement that has no fault, and the rest of its body, both with so much room; `new` makes whatever the record has
  abbrev pub acts : ℕ → Traces N → Action N → Traces N
  acts room deeper (Bind x v) rest env heap r end = deeper rest (bind x v env) heap r end
  acts room deeper (Make d) rest env heap (A m r) end = deeper rest (bind d (ref m) env) heap r end
  acts room deeper (Put m v) rest env heap (W n u r) end = (m ≡ n) × (v ≡ u) × deeper rest env ((n, u) ∷ heap) r end
  acts room deeper (Body body inner) rest env heap (S t r) end =
      (e : End) × deeper body inner heap t e × goes_on e deeper rest env (writes t ++ heap) r end
  acts room deeper (Block block reads body inner) rest env heap (S (R level b f seen t) r) end =
      (room ≡ level) × (block ≡ b) × (env ≡ f) × (reads ≡ seen) × ((e : End) × deeper body inner heap t e × goes_on e deeper rest env (writes t ++ heap) r end)
  acts room deeper (Sides left right) rest env heap (S (P l k) r) end =
      (e : End) × (f : End) × deeper left env heap l e × deeper right env (writes l ++ heap) k f × goes_on (first_stop e f) deeper rest env (writes k ++ (writes l ++ heap)) r end
  acts room deeper _ rest env heap _ end = ⊥

  abbrev pub acts_or_stops : ℕ → Traces N → Result (Action N) FaultKind → ℕ → Traces N
  acts_or_stops room deeper (Ok a) line rest env heap r end = acts room deeper a rest env heap r end
  acts_or_stops room deeper (Err k) line rest env heap r end = stops k line r end

-- the record is one that a run of these statements may leave, where they may go so many levels deeper
unfoldable pub traced : {N : Type 0} → Setting N → List Func → ℕ → Traces N
traced w funcs room [] env heap r end = (r ≡ E) × (end ≡ Done)
traced w funcs zero (s ∷ rest) env heap r end = stops TooDeep (line_of (out-Stmt s)) r end
traced w funcs (suc room) (s ∷ rest) env heap r end =
    acts_or_stops room (traced w funcs room) (action_of (listed w) w funcs env heap (out-Stmt s)) (line_of (out-Stmt s)) rest env heap r end
