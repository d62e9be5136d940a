-- A run of statements that was cut short, as a relation: which records it may leave, and what it may have drawn beside them.
use Rattle.std.specs.Prelude.{◌≡◌, ℕ, zero, suc, ◌+◌, ◌≤◌, List, [], ◌∷◌, ◌++◌, Result, Ok, Err, ◌⊎◌}
use Rattle.psac_ops.specs.Value.{ref}
use Rattle.psac_syntax.specs.declared.program.Stmt.{Stmt, out-Stmt}
use Rattle.psac_syntax.specs.declared.program.Func.{Func}
use Rattle.psac_model.specs.declared.ends.FaultKind.{FaultKind}
use Rattle.psac_model.specs.declared.ends.End.{End}
use Rattle.psac_model.specs.declared.ends.End.TheVariants.{Done}
use Rattle.psac_model.specs.Names.{Env, bind}
use Rattle.psac_model.specs.Expression.{Setting}
use Rattle.psac_model.specs.Tree.{Reads}
use Rattle.psac_model.specs.Run.{Action, Bind, Make, Put, Body, Block, Sides, action_of}
use Rattle.psac_traced.specs.Rec.{Rec, E, A, W, S, P, R, HeapOf, writes}
use Rattle.psac_traced.specs.Traced.{Traces, listed, traced}

-- what is said of statements, an environment, a heap, a record, and how many modifiables were drawn that the table did not give
abbrev pub Cuts : Type 0 → Type 1
Cuts N = List Stmt → Env N → HeapOf N → Rec N → ℕ → Type 0

module _ {N : Type 0} where
  -- nothing was made, and nothing was drawn
  abbrev pub nothing : Rec N → ℕ → Type 0
  nothing r n = (r ≡ E) × (n ≡ 0)

  -- a statement that has no fault, and the rest of its body: it is cut short before it, inside it, or behind it where it is done. A node may
  -- have nothing below it, a block some of its reads, and a `new` may have drawn in vain. The right side of a par is over the heap before the par
  -- where the left side is cut short
  abbrev pub cuts : ℕ → Traces N → Cuts N → Action N → List Stmt → Env N → HeapOf N → Rec N → ℕ → Type 0
  cuts room deep first (Bind x v) rest env heap r n = first rest (bind x v env) heap r n
  cuts room deep first (Make d) rest env heap E n = n ≤ 1
  cuts room deep first (Make d) rest env heap (A m r) n = first rest (bind d (ref m) env) heap r n
  cuts room deep first a rest env heap E n = n ≡ 0
  cuts room deep first (Put m v) rest env heap (W k u r) n = (m ≡ k) × (v ≡ u) × first rest env ((k, u) ∷ heap) r n
  cuts room deep first (Body body inner) rest env heap (S t r) n =
      (first body inner heap t n × (r ≡ E)) ⊎ (deep body inner heap t Done × first rest env (writes t ++ heap) r n)
  cuts room deep first (Block block reads body inner) rest env heap (S E r) n = nothing r n
  cuts room deep first (Block block reads body inner) rest env heap (S (R level b f seen t) r) n =
      (room ≡ level) × (block ≡ b) × (env ≡ f) × (((more : Reads N) × (seen ++ more ≡ reads) × first body inner heap t n × (r ≡ E)) ⊎ ((reads ≡ seen) × deep body inner heap t Done × first rest env (writes t ++ heap) r n))
  cuts room deep first (Sides left right) rest env heap (S E r) n = nothing r n
  cuts room deep first (Sides left right) rest env heap (S (P l k) r) n =
      ((a : ℕ) × (b : ℕ) × first left env heap l a × first right env heap k b × (a + b ≡ n) × (r ≡ E)) ⊎ (((e : End) × deep left env heap l e × first right env (writes l ++ heap) k n × (r ≡ E)) ⊎ (deep left env heap l Done × deep right env (writes l ++ heap) k Done × first rest env (writes k ++ (writes l ++ heap)) r n))
  cuts room deep first _ rest env heap _ n = ⊥

  abbrev pub cuts_or_nothing : ℕ → Traces N → Cuts N → Result (Action N) FaultKind → List Stmt → Env N → HeapOf N → Rec N → ℕ → Type 0
  cuts_or_nothing room deep first (Ok a) rest env heap r n = cuts room deep first a rest env heap r n
  cuts_or_nothing room deep first (Err k) rest env heap r n = nothing r n

-- the record is a first part of one that a run of these statements may leave, where they may go so many levels deeper
unfoldable pub cut_short : {N : Type 0} → Setting N → List Func → ℕ → Cuts N
cut_short w funcs room [] env heap r n = nothing r n
cut_short w funcs zero (s ∷ rest) env heap r n = nothing r n
cut_short w funcs (suc room) (s ∷ rest) env heap r n =
    cuts_or_nothing room (traced w funcs room) (cut_short w funcs room) (action_of (listed w) w funcs env heap (out-Stmt s)) rest env heap r n
