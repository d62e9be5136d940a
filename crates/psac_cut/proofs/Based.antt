-- Steps of a run that was cut short, over each heap that has a base.
use Rattle.std.proofs.Common.{◌≡◌, ℕ, suc, ◌+◌, Bool, true, false, if◌then◌else◌, List, [], ◌∷◌, ◌++◌, Some, Ok, refl, subst, arith, inl, inr, append_assoc}
use Rattle.psac_ops.specs.Value.{Value, ref}
use Rattle.psac_syntax.specs.declared.program.Stmt.{Stmt, out-Stmt}
use Rattle.psac_syntax.specs.declared.program.Func.{Func}
use Rattle.psac_model.specs.declared.ends.End.{End}
use Rattle.psac_model.specs.declared.ends.End.TheVariants.{Done}
use Rattle.psac_model.specs.Names.{Env, bind}
use Rattle.psac_model.specs.Expression.{Setting}
use Rattle.psac_model.specs.Tree.{Reads}
use Rattle.psac_model.specs.Run.{Action, Bind, Make, Put, Body, Block, Sides, action_of}
use Rattle.psac_traced.specs.Rec.{Rec, E, A, W, S, P, R, HeapOf, held_by, writes}
use Rattle.psac_traced.specs.Traced.{Traces, listed, traced}
use Rattle.psac_cut.specs.CutShort.{Cuts, cuts, cut_short}
use Rattle.psac_cut.specs.Based.{Wider, CutOn}
use Rattle.psac_cut.proofs.Cutting.{StartsEmpty, cuts_none, cut_none, cut_whole, cut_acts}

module _ {N : Type 0} (same : N → N → Bool) where
  -- the same writes before both
  pub wider_front : (ws base heap : HeapOf N) → Wider same base heap → Wider same (ws ++ base) (ws ++ heap)
  wider_front [] base heap wi m x e = wi m x e
  wider_front (p ∷ ws) base heap wi m x e =
      elim (same p.0 m) as (λ b. (if b then Some p.1 else held_by same (ws ++ base) m) ≡ Some x → (if b then Some p.1 else held_by same (ws ++ heap) m) ≡ Some x) [
        | true ↦ λ k. k
        | false ↦ wider_front ws base heap wi m x
      ] e

  -- statements that leave this record on each heap that has the base
  abbrev pub Leaves : Traces N → List Stmt → Env N → HeapOf N → Rec N → End → Type 0
  Leaves deep body env base r end = (heap : HeapOf N) → Wider same base heap → deep body env heap r end

  module _ (w : Setting N) (funcs : List Func) (room : ℕ) where
    -- before anything is made
    pub cut_on_none : (body : List Stmt) (env : Env N) (base : HeapOf N) → CutOn same (cut_short w funcs room) body env base E 0
    cut_on_none body env base = record { run = λ heap wi. cut_none w funcs room body env heap }

    -- a run that is done, or stops by itself
    pub cut_on_whole : (body : List Stmt) (env : Env N) (base : HeapOf N) (r : Rec N) (end : End) → Leaves (traced w funcs room) body env base r end → CutOn same (cut_short w funcs room) body env base r 0
    cut_on_whole body env base r end t = record { run = λ heap wi. cut_whole w funcs room body env heap r end (t heap wi) }

    -- from what a statement asks for to statements
    pub cut_on_acts : (s : Stmt) (rest : List Stmt) (env : Env N) (base : HeapOf N) (a : Action N) (r : Rec N) (n : ℕ) → ((heap : HeapOf N) → Wider same base heap → action_of (listed w) w funcs env heap (out-Stmt s) ≡ Ok a) → CutOn same (cuts room (traced w funcs room) (cut_short w funcs room) a) rest env base r n → CutOn same (cut_short w funcs (suc room)) (s ∷ rest) env base r n
    cut_on_acts s rest env base a r n h t = record { run = λ heap wi. cut_acts w funcs room s rest env heap a r n (h heap wi) (t.run heap wi) }

  module _ (room : ℕ) (deep : Traces N) (first : Cuts N) (rest : List Stmt) (env : Env N) (base : HeapOf N) where
    -- a statement, and what of the rest of its body was run
    abbrev pub CutAt : Action N → Rec N → ℕ → Type 0
    CutAt a r n = CutOn same (cuts room deep first a) rest env base r n

    pub before : StartsEmpty first → (a : Action N) → CutAt a E 0
    before none a = record { run = λ heap wi. cuts_none room deep first none a rest env heap }

    pub at_let : (x : ℕ) (v : Value N) (r : Rec N) (n : ℕ) → CutOn same first rest (bind x v env) base r n → CutAt (Bind x v) r n
    at_let x v r n t = record { run = λ heap wi. t.run heap wi }

    -- a modifiable that was drawn in vain, and one that was made
    pub vain_new : (d : ℕ) → CutAt (Make d) E 1
    vain_new d = record { run = λ heap wi. omega arith }

    pub at_new : (d : ℕ) (m : N) (r : Rec N) (n : ℕ) → CutOn same first rest (bind d (ref m) env) base r n → CutAt (Make d) (A m r) n
    at_new d m r n t = record { run = λ heap wi. t.run heap wi }

    pub at_write : (m : N) (v : Value N) (r : Rec N) (n : ℕ) → CutOn same first rest env ((m, v) ∷ base) r n → CutAt (Put m v) (W m v r) n
    at_write m v r n t = record { run = λ heap wi. (refl, refl, t.run ((m, v) ∷ heap) (wider_front ((m, v) ∷ []) base heap wi)) }

    -- a body that was cut short, and the rest behind one that is done
    pub at_body : (body : List Stmt) (inner : Env N) (t : Rec N) (n : ℕ) → CutOn same first body inner base t n → CutAt (Body body inner) (S t E) n
    at_body body inner t n c = record { run = λ heap wi. inl (c.run heap wi, refl) }

    pub behind_body : (body : List Stmt) (inner : Env N) (t r : Rec N) (n : ℕ) → Leaves deep body inner base t Done → CutOn same first rest env (writes t ++ base) r n → CutAt (Body body inner) (S t r) n
    behind_body body inner t r n d c = record { run = λ heap wi. inr (d heap wi, c.run (writes t ++ heap) (wider_front (writes t) base heap wi)) }

    module _ (block : ℕ) (reads : Reads N) (body : List Stmt) (inner : Env N) where
      -- a read whose first node was drawn, one with some of its reads, and the rest behind one that is done
      pub bare_block : CutAt (Block block reads body inner) (S E E) 0
      bare_block = record { run = λ heap wi. (refl, refl) }

      pub at_block : (seen more : Reads N) (t : Rec N) (n : ℕ) → seen ++ more ≡ reads → CutOn same first body inner base t n → CutAt (Block block reads body inner) (S (R room block env seen t) E) n
      at_block seen more t n e c = record { run = λ heap wi. (refl, refl, refl, inl (more, e, c.run heap wi, refl)) }

      pub behind_block : (t r : Rec N) (n : ℕ) → Leaves deep body inner base t Done → CutOn same first rest env (writes t ++ base) r n → CutAt (Block block reads body inner) (S (R room block env reads t) r) n
      behind_block t r n d c =
          record { run = λ heap wi. (refl, refl, refl, inr (refl, d heap wi, c.run (writes t ++ heap) (wider_front (writes t) base heap wi))) }

    module _ (left right : List Stmt) where
      -- a par whose first node was drawn, one of which a side was cut short, and the rest behind one that is done
      pub bare_sides : CutAt (Sides left right) (S E E) 0
      bare_sides = record { run = λ heap wi. (refl, refl) }

      pub at_sides : (l k : Rec N) (a b : ℕ) → CutOn same first left env base l a → CutOn same first right env base k b → CutAt (Sides left right) (S (P l k) E) (a + b)
      at_sides l k a b c d = record { run = λ heap wi. inl (a, b, c.run heap wi, d.run heap wi, refl, refl) }

      pub behind_sides : (l k r : Rec N) (n : ℕ) → Leaves deep left env base l Done → ((heap : HeapOf N) → Wider same base heap → deep right env (writes l ++ heap) k Done) → CutOn same first rest env (writes (P l k) ++ base) r n → CutAt (Sides left right) (S (P l k) r) n
      behind_sides l k r n d f c = record { run = λ heap wi. inr (inr (d heap wi, f heap wi, subst (λ z. first rest env z r n) (append_assoc (writes k) (writes l) heap) (c.run (writes (P l k) ++ heap) (wider_front (writes (P l k)) base heap wi)))) }
