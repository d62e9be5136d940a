-- Each record that a run may leave is one that it may leave where it is cut short, and so is none.
use Rattle.std.proofs.Common.{◌≡◌, ℕ, suc, zero, List, [], ◌∷◌, ◌++◌, Result, Ok, Err, refl, sym, ◌∙◌, subst, arith, ◌⊎◌, inl, inr, append-nil}
use Rattle.psac_ops.specs.Value.{ref}
use Rattle.psac_syntax.specs.declared.program.Stmt.{Stmt, out-Stmt}
use Rattle.psac_syntax.specs.declared.program.Func.{Func}
use Rattle.psac_model.specs.declared.ends.FaultKind.{FaultKind}
use Rattle.psac_model.specs.declared.ends.End.{End}
use Rattle.psac_model.specs.declared.ends.End.TheVariants.{Done, Stop}
use Rattle.psac_model.specs.Names.{Env, bind}
use Rattle.psac_model.specs.Expression.{Setting}
use Rattle.psac_model.specs.Tree.{Reads}
use Rattle.psac_model.specs.Run.{Action, Bind, Make, Put, Body, Block, Sides, action_of, line_of, first_stop}
use Rattle.psac_traced.specs.Rec.{Rec, E, A, W, S, P, R, HeapOf, writes}
use Rattle.psac_traced.specs.Traced.{Traces, listed, goes_on, acts, acts_or_stops, traced}
use Rattle.psac_cut.specs.CutShort.{Cuts, cuts, cuts_or_nothing, cut_short}

module _ {N : Type 0} where
  -- nothing at all is a first part
  abbrev pub StartsEmpty : Cuts N → Type 0
  StartsEmpty first = (body : List Stmt) (env : Env N) (heap : HeapOf N) → first body env heap E 0

  pub cuts_none : (room : ℕ) (deep : Traces N) (first : Cuts N) → StartsEmpty first → (a : Action N) (rest : List Stmt) (env : Env N) (heap : HeapOf N) → cuts room deep first a rest env heap E 0
  cuts_none room deep first none (Bind x v) rest env heap = none rest (bind x v env) heap
  cuts_none room deep first none (Make d) rest env heap = omega arith
  cuts_none room deep first none (Put m v) rest env heap = refl
  cuts_none room deep first none (Body body inner) rest env heap = refl
  cuts_none room deep first none (Block block reads body inner) rest env heap = refl
  cuts_none room deep first none (Sides left right) rest env heap = refl

  step_none : (room : ℕ) (deep : Traces N) (first : Cuts N) → StartsEmpty first → (o : Result (Action N) FaultKind) (rest : List Stmt) (env : Env N) (heap : HeapOf N) → cuts_or_nothing room deep first o rest env heap E 0
  step_none room deep first none (Ok a) rest env heap = cuts_none room deep first none a rest env heap
  step_none room deep first none (Err k) rest env heap = (refl, refl)

  -- what the deeper statements may leave, they may leave where they are cut short
  abbrev pub Shortens : Traces N → Cuts N → Type 0
  Shortens deep first = (body : List Stmt) (env : Env N) (heap : HeapOf N) (r : Rec N) (end : End) → deep body env heap r end → first body env heap r 0

  module _ (room : ℕ) (deep : Traces N) (first : Cuts N) (short : Shortens deep first) where
    body_short : (e : End) (body rest : List Stmt) (inner env : Env N) (heap : HeapOf N) (t r : Rec N) (end : End) → deep body inner heap t e → goes_on e deep rest env (writes t ++ heap) r end → cuts room deep first (Body body inner) rest env heap (S t r) 0
    body_short Done body rest inner env heap t r end d g = inr (d, short rest env (writes t ++ heap) r end g)
    body_short (Stop k line) body rest inner env heap t r end d g = inl (short body inner heap t (Stop k line) d, g.0)

    block_short : (e : End) (reads seen : Reads N) (body rest : List Stmt) (inner env : Env N) (heap : HeapOf N) (t r : Rec N) (end : End) → reads ≡ seen → deep body inner heap t e → goes_on e deep rest env (writes t ++ heap) r end → ((more : Reads N) × (seen ++ more ≡ reads) × first body inner heap t 0 × (r ≡ E)) ⊎ ((reads ≡ seen) × deep body inner heap t Done × first rest env (writes t ++ heap) r 0)
    block_short Done reads seen body rest inner env heap t r end i d g = inr (i, d, short rest env (writes t ++ heap) r end g)
    block_short (Stop k line) reads seen body rest inner env heap t r end i d g = inl ([], append-nil seen ∙ sym i, short body inner heap t (Stop k line) d, g.0)

    sides_short : (e f : End) (left right rest : List Stmt) (env : Env N) (heap : HeapOf N) (l k r : Rec N) (end : End) → deep left env heap l e → deep right env (writes l ++ heap) k f → goes_on (first_stop e f) deep rest env (writes k ++ (writes l ++ heap)) r end → cuts room deep first (Sides left right) rest env heap (S (P l k) r) 0
    sides_short Done Done left right rest env heap l k r end a b g = inr (inr (a, b, short rest env (writes k ++ (writes l ++ heap)) r end g))
    sides_short Done (Stop why line) left right rest env heap l k r end a b g = inr (inl (Done, a, short right env (writes l ++ heap) k (Stop why line) b, g.0))
    sides_short (Stop why line) f left right rest env heap l k r end a b g = inr (inl (Stop why line, a, short right env (writes l ++ heap) k f b, g.0))

    pub act_short : (a : Action N) (rest : List Stmt) (env : Env N) (heap : HeapOf N) (r : Rec N) (end : End) → acts room deep a rest env heap r end → cuts room deep first a rest env heap r 0
    act_short (Bind x v) rest env heap r end t = short rest (bind x v env) heap r end t
    act_short (Make d) rest env heap (A m r) end t = short rest (bind d (ref m) env) heap r end t
    act_short (Put m v) rest env heap (W k u r) end t = (t.0, t.1, short rest env ((k, u) ∷ heap) r end t.2)
    act_short (Body body inner) rest env heap (S t r) end d = body_short d.0 body rest inner env heap t r end d.1 d.2
    act_short (Block block reads body inner) rest env heap (S (R level b f seen t) r) end d =
        (d.0, d.1, d.2, block_short d.4.0 reads seen body rest inner env heap t r end d.3 d.4.1 d.4.2)
    act_short (Sides left right) rest env heap (S (P l k) r) end d = sides_short d.0 d.1 left right rest env heap l k r end d.2 d.3 d.4
    act_short _ rest env heap _ end t = absurd t

    step_short : (o : Result (Action N) FaultKind) (line : ℕ) (rest : List Stmt) (env : Env N) (heap : HeapOf N) (r : Rec N) (end : End) → acts_or_stops room deep o line rest env heap r end → cuts_or_nothing room deep first o rest env heap r 0
    step_short (Ok a) line rest env heap r end t = act_short a rest env heap r end t
    step_short (Err k) line rest env heap r end t = (t.0, refl)

module _ {N : Type 0} (w : Setting N) (funcs : List Func) where
  -- before anything is made
  pub cut_none : (room : ℕ) → StartsEmpty (cut_short w funcs room)
  unfolding cut_short
  cut_none room [] env heap = (refl, refl)
  cut_none zero (s ∷ rest) env heap = (refl, refl)
  cut_none (suc room) (s ∷ rest) env heap =
      step_none room (traced w funcs room) (cut_short w funcs room) (cut_none room) (action_of (listed w) w funcs env heap (out-Stmt s)) rest env heap

  -- where the run is done, or stops by itself
  pub cut_whole : (room : ℕ) → Shortens (traced w funcs room) (cut_short w funcs room)
  unfolding traced cut_short
  cut_whole room [] env heap r end t = (t.0, refl)
  cut_whole zero (s ∷ rest) env heap r end t = (t.0, refl)
  cut_whole (suc room) (s ∷ rest) env heap r end t =
      step_short room (traced w funcs room) (cut_short w funcs room) (cut_whole room) (action_of (listed w) w funcs env heap (out-Stmt s)) (line_of (out-Stmt s)) rest env heap r end t

  -- a statement that has no fault, and one that has
  pub cut_acts : (room : ℕ) (s : Stmt) (rest : List Stmt) (env : Env N) (heap : HeapOf N) (a : Action N) (r : Rec N) (n : ℕ) → action_of (listed w) w funcs env heap (out-Stmt s) ≡ Ok a → cuts room (traced w funcs room) (cut_short w funcs room) a rest env heap r n → cut_short w funcs (suc room) (s ∷ rest) env heap r n
  unfolding cut_short
  cut_acts room s rest env heap a r n h t =
      subst (λ o. cuts_or_nothing room (traced w funcs room) (cut_short w funcs room) o rest env heap r n) (sym h) t
