-- Where the reads of a record give the same.
use Rattle.std.proofs.Common.{◌≡◌, ℕ, suc, zero, Bool, true, false, if◌then◌else◌, List, [], ◌∷◌, ◌++◌, map, Option, Some, None, Result, Ok, Err, refl, sym, subst, append_assoc}
use Rattle.psac_ops.specs.Value.{Value, ref}
use Rattle.psac_ops.specs.Table.{◌>>=◌}
use Rattle.psac_syntax.specs.declared.program.Stmt.{Stmt, out-Stmt}
use Rattle.psac_syntax.specs.declared.program.ReadItem.{ReadItem}
use Rattle.psac_syntax.specs.declared.program.Func.{Func}
use Rattle.psac_model.specs.declared.ends.FaultKind.{FaultKind}
use Rattle.psac_model.specs.declared.ends.End.{End}
use Rattle.psac_model.specs.declared.ends.End.TheVariants.{Done, Stop}
use Rattle.psac_model.specs.Names.{Env, bind}
use Rattle.psac_model.specs.Expression.{Setting, value_of, in_order, or_kind}
use Rattle.psac_model.specs.Tree.{Reads}
use Rattle.psac_model.specs.Run.{Action, Bind, Make, Put, Body, Block, Sides, action_of, read_of, line_of, target, first_stop}
use Rattle.psac_traced.specs.Rec.{Rec, E, A, W, S, P, R, HeapOf, held_by, writes}
use Rattle.psac_traced.specs.Traced.{Traces, listed, goes_on, acts, acts_or_stops, traced}
use Rattle.psac_traced.specs.Holds.{Sees, Holds, EachOf, EachRead}
use Rattle.psac_traced.proofs.Results.{ok_is, ok_then}
use Rattle.psac_traced.proofs.Asked.{asked_read}

module _ {N : Type 0} where
  each_of_more : (Q K : N → Value N → Type 0) → ((m : N) (v : Value N) → Q m v → K m v) → (reads : Reads N) → EachOf Q reads → EachOf K reads
  each_of_more Q K f [] h = tt
  each_of_more Q K f (r ∷ rs) h = (f r.0 r.1 h.0, each_of_more Q K f rs h.1)

  pub each_read_more : (Q K : N → Value N → Type 0) → ((m : N) (v : Value N) → Q m v → K m v) → (r : Rec N) → EachRead Q r → EachRead K r
  each_read_more Q K f E h = tt
  each_read_more Q K f (A m r) h = each_read_more Q K f r h
  each_read_more Q K f (W m v r) h = each_read_more Q K f r h
  each_read_more Q K f (S t r) h = (each_read_more Q K f t h.0, each_read_more Q K f r h.1)
  each_read_more Q K f (P t r) h = (each_read_more Q K f t h.0, each_read_more Q K f r h.1)
  each_read_more Q K f (R room block env reads t) h = (each_of_more Q K f reads h.0, each_read_more Q K f t h.1)

module _ {N : Type 0} (same : N → N → Bool) where
  -- what one heap has of a modifiable, the other has too
  abbrev pub Stays : HeapOf N → HeapOf N → N → Value N → Type 0
  Stays heap other m v = held_by same heap m ≡ Some v → held_by same other m ≡ Some v

  stays_behind : (ws heap other : HeapOf N) (m : N) (v : Value N) → Stays heap other m v → Stays (ws ++ heap) (ws ++ other) m v
  stays_behind [] heap other m v h = h
  stays_behind (p ∷ ws) heap other m v h =
      elim (same p.0 m) as (λ b. (if b then Some p.1 else held_by same (ws ++ heap) m) ≡ Some v → (if b then Some p.1 else held_by same (ws ++ other) m) ≡ Some v) [
        | true ↦ λ e. e
        | false ↦ stays_behind ws heap other m v h
      ]

  sees_moved : (heap other : HeapOf N) (reads : Reads N) → EachOf (Stays heap other) reads → Sees same heap reads → Sees same other reads
  sees_moved heap other [] h k = tt
  sees_moved heap other (r ∷ rs) h k = (h.0 k.0, sees_moved heap other rs h.1 k.1)

  -- a record whose reads hold over a heap holds over another that has the values that it read of this one
  pub holds_moved : (heap other : HeapOf N) (r : Rec N) → EachRead (Stays heap other) r → Holds same heap r → Holds same other r
  holds_moved heap other E h k = tt
  holds_moved heap other (A m r) h k = holds_moved heap other r h k
  holds_moved heap other (W m v r) h k =
      holds_moved ((m, v) ∷ heap) ((m, v) ∷ other) r (each_read_more (Stays heap other) (Stays ((m, v) ∷ heap) ((m, v) ∷ other)) (stays_behind ((m, v) ∷ []) heap other) r h) k
  holds_moved heap other (S t r) h k =
      (holds_moved heap other t h.0 k.0, holds_moved (writes t ++ heap) (writes t ++ other) r (each_read_more (Stays heap other) (Stays (writes t ++ heap) (writes t ++ other)) (stays_behind (writes t) heap other) r h.1) k.1)
  holds_moved heap other (P t r) h k =
      (holds_moved heap other t h.0 k.0, holds_moved (writes t ++ heap) (writes t ++ other) r (each_read_more (Stays heap other) (Stays (writes t ++ heap) (writes t ++ other)) (stays_behind (writes t) heap other) r h.1) k.1)
  holds_moved heap other (R room block env reads t) h k = (sees_moved heap other reads h.0 k.0, holds_moved heap other t h.1 k.1)

module _ {N : Type 0} (w : Setting N) (env : Env N) (heap : HeapOf N) where
  one_seen : (item : ReadItem) (r : N × Value N) → read_of (listed w) w env heap item ≡ Ok r → held_by w.same heap r.0 ≡ Some r.1
  one_seen item r h =
      let a = ok_then (value_of w env item.from) _ r h in
      let b = ok_then (target a.0) _ r a.2 in
      by b.0 (held_by w.same heap b.0) refl b.2
    where
      by : (m : N) (o : Option (Value N)) → held_by w.same heap m ≡ o → (or_kind o >>= λ x. Ok (m, x)) ≡ Ok r → held_by w.same heap r.0 ≡ Some r.1
      by m (Some x) e k = let i : (m, x) ≡ r = ok_is k in subst (λ (z : N × Value N). held_by w.same heap z.0 ≡ Some z.1) i e
      by m None e k = absurd cc

  all_seen : (items : List ReadItem) (reads : Reads N) → in_order (map (read_of (listed w) w env heap) items) ≡ Ok reads → Sees w.same heap reads
  all_seen [] reads h = subst (Sees w.same heap) (ok_is h) tt
  all_seen (item ∷ items) reads h =
      let a = ok_then (read_of (listed w) w env heap item) _ reads h in
      let b = ok_then (in_order (map (read_of (listed w) w env heap) items)) _ reads a.2 in
      subst (Sees w.same heap) (ok_is b.2) (one_seen item a.0 a.1, all_seen items b.0 b.1)

module _ {N : Type 0} (w : Setting N) (funcs : List Func) where
  abbrev pub HoldsHere : Traces N → Type 0
  HoldsHere deep = (body : List Stmt) (env : Env N) (heap : HeapOf N) (r : Rec N) (end : End) → deep body env heap r end → Holds w.same heap r

  -- what a block read is what the heap has
  abbrev SeesIn : HeapOf N → Action N → Type 0
  SeesIn heap (Block block reads body inner) = Sees w.same heap reads
  SeesIn heap _ = Unit {0}

  module _ (room : ℕ) (deep : Traces N) (go : HoldsHere deep) where
    on_holds : (e : End) → HoldsHere (goes_on e deep)
    on_holds Done body env heap r end t = go body env heap r end t
    on_holds (Stop why line) body env heap r end t = subst (Holds w.same heap) (sym t.0) tt

    act_holds : (a : Action N) (rest : List Stmt) (env : Env N) (heap : HeapOf N) (r : Rec N) (end : End) → SeesIn heap a → acts room deep a rest env heap r end → Holds w.same heap r
    act_holds (Bind x v) rest env heap r end s t = go rest (bind x v env) heap r end t
    act_holds (Make d) rest env heap (A m r) end s t = go rest (bind d (ref m) env) heap r end t
    act_holds (Put m v) rest env heap (W n u r) end s t = go rest env ((n, u) ∷ heap) r end t.2
    act_holds (Body body inner) rest env heap (S b r) end s t = (go body inner heap b t.0 t.1, on_holds t.0 rest env (writes b ++ heap) r end t.2)
    act_holds (Block block reads body inner) rest env heap (S (R level c e seen b) r) end s t =
        ((subst (Sees w.same heap) t.3 s, go body inner heap b t.4.0 t.4.1), on_holds t.4.0 rest env (writes b ++ heap) r end t.4.2)
    act_holds (Sides left right) rest env heap (S (P l k) r) end s t =
        ((go left env heap l t.0 t.2, go right env (writes l ++ heap) k t.1 t.3), subst (λ h. Holds w.same h r) (sym (append_assoc (writes k) (writes l) heap)) (on_holds (first_stop t.0 t.1) rest env (writes k ++ (writes l ++ heap)) r end t.4))
    act_holds _ rest env heap _ end s t = absurd t

    step_holds : (o : Result (Action N) FaultKind) (line : ℕ) (rest : List Stmt) (env : Env N) (heap : HeapOf N) (r : Rec N) (end : End) → ((a : Action N) → o ≡ Ok a → SeesIn heap a) → acts_or_stops room deep o line rest env heap r end → Holds w.same heap r
    step_holds (Ok a) line rest env heap r end s t = act_holds a rest env heap r end (s a refl) t
    step_holds (Err why) line rest env heap r end s t = subst (Holds w.same heap) (sym t.0) tt

  action_sees : (s : Stmt) (env : Env N) (heap : HeapOf N) (a : Action N) → action_of (listed w) w funcs env heap (out-Stmt s) ≡ Ok a → SeesIn heap a
  action_sees s env heap (Block block reads body inner) h =
      let b = asked_read w funcs env heap (out-Stmt s) block reads body inner h in
      all_seen w env heap b.0 reads b.1
  action_sees s env heap (Bind x v) h = tt
  action_sees s env heap _ h = tt

  -- the reads of a record that a run may leave hold over the heap that it began with
  pub traced_holds : (room : ℕ) → HoldsHere (traced w funcs room)
  unfolding traced
  traced_holds room [] env heap r end t = subst (Holds w.same heap) (sym t.0) tt
  traced_holds zero (s ∷ rest) env heap r end t = subst (Holds w.same heap) (sym t.0) tt
  traced_holds (suc room) (s ∷ rest) env heap r end t =
      step_holds room (traced w funcs room) (traced_holds room) (action_of (listed w) w funcs env heap (out-Stmt s)) (line_of (out-Stmt s)) rest env heap r end (action_sees s env heap) t
