-- A record that is done stands over each heap where its reads give the same.
use Rattle.std.proofs.Common.{◌≡◌, ℕ, suc, zero, List, [], ◌∷◌, ◌++◌, map, Some, Result, Ok, Err, refl, ap, sym, ◌∙◌, subst, append_assoc}
use Rattle.psac_ops.specs.Value.{Value, ref}
use Rattle.psac_ops.specs.Table.{◌>>=◌}
use Rattle.psac_syntax.specs.declared.program.Stmt.{Stmt, out-Stmt}
use Rattle.psac_syntax.specs.declared.program.Stmt.TheOpen.{Stmt-F}
use Rattle.psac_syntax.specs.declared.program.ReadItem.{ReadItem}
use Rattle.psac_syntax.specs.declared.program.Func.{Func}
use Rattle.psac_model.specs.declared.ends.FaultKind.{FaultKind}
use Rattle.psac_model.specs.declared.ends.End.{End}
use Rattle.psac_model.specs.declared.ends.End.TheVariants.{Done, Stop}
use Rattle.psac_model.specs.Names.{Env, bind}
use Rattle.psac_model.specs.Expression.{Setting, value_of, in_order, or_kind}
use Rattle.psac_model.specs.Tree.{Reads}
use Rattle.psac_model.specs.Run.{Action, Bind, Make, Put, Body, Block, Sides, action_of, read_of, line_of, target, first_stop, with_reads}
use Rattle.psac_traced.specs.Rec.{Rec, A, W, S, P, R, HeapOf, held_by, writes}
use Rattle.psac_traced.specs.Traced.{Traces, listed, goes_on, acts, acts_or_stops, traced}
use Rattle.psac_traced.specs.Holds.{read_names, Sees, Holds}
use Rattle.psac_traced.proofs.Results.{ok_is, ok_then}

pub not_done : {X : Type 0} (k : FaultKind) (n : ℕ) → Done ≡ Stop k n → X
not_done k n h = absurd cc

pub first_left : (e f : End) → first_stop e f ≡ Done → (e ≡ Done) × (f ≡ Done)
first_left Done f h = (refl, h)
first_left (Stop k n) f h = not_done k n (sym h)

module _ {N : Type 0} (w : Setting N) (env : Env N) (heap other : HeapOf N) where
  -- over another heap a read of the same modifiable gives what that one has
  one_there : (item : ReadItem) (r q : N × Value N) → read_of (listed w) w env heap item ≡ Ok r → r.0 ≡ q.0 → held_by w.same other q.0 ≡ Some q.1 → read_of (listed w) w env other item ≡ Ok q
  one_there item r q h n k =
      let a = ok_then (value_of w env item.from) _ r h in
      let b = ok_then (target a.0) _ r a.2 in
      let c = ok_then (or_kind (held_by w.same heap b.0)) _ r b.2 in
      let e : (b.0, c.0) ≡ r = ok_is c.2 in
      let name : b.0 ≡ q.0 = ap (λ (z : N × Value N). z.0) e ∙ n in
      let found : (or_kind (held_by w.same other b.0) >>= λ x. Ok (b.0, x)) ≡ Ok q =
      ap (λ m. or_kind (held_by w.same other m) >>= λ x. Ok (m, x)) name ∙ ap (λ o. or_kind o >>= λ x. Ok (q.0, x)) k in
      rw (a.1, b.1) found

  pub reads_there : (items : List ReadItem) (reads again : Reads N) → in_order (map (read_of (listed w) w env heap) items) ≡ Ok reads → read_names reads ≡ read_names again → Sees w.same other again → in_order (map (read_of (listed w) w env other) items) ≡ Ok again
  reads_there [] [] [] h n k = refl
  reads_there [] [] (q ∷ qs) h n k = absurd cc
  reads_there [] (r ∷ rs) again h n k = absurd cc
  reads_there (item ∷ items) reads [] h n k =
      let a = ok_then (read_of (listed w) w env heap item) _ reads h in
      let b = ok_then (in_order (map (read_of (listed w) w env heap) items)) _ reads a.2 in
      let e : a.0 ∷ b.0 ≡ reads = ok_is b.2 in
      absurd (let z : read_names (a.0 ∷ b.0) ≡ [] = ap read_names e ∙ n in cc)
  reads_there (item ∷ items) reads (q ∷ qs) h n k =
      let a = ok_then (read_of (listed w) w env heap item) _ reads h in
      let b = ok_then (in_order (map (read_of (listed w) w env heap) items)) _ reads a.2 in
      let e : a.0 ∷ b.0 ≡ reads = ok_is b.2 in
      let z : a.0.0 ∷ read_names b.0 ≡ q.0 ∷ read_names qs = ap read_names e ∙ n in
      let head : a.0.0 ≡ q.0 = cc in
      let tail : read_names b.0 ≡ read_names qs = cc in
      rw (one_there item a.0 q a.1 head k.0, reads_there items b.0 qs b.1 tail k.1) refl

module _ {N : Type 0} (w : Setting N) (funcs : List Func) where
  -- the statements that are gone into stand again
  abbrev pub Stands : Traces N → Type 0
  Stands deep = (body : List Stmt) (env : Env N) (heap other : HeapOf N) (r : Rec N) → deep body env heap r Done → Holds w.same other r → deep body env other r Done

  on_again : (deep : Traces N) → Stands deep → (e : End) (rest : List Stmt) (env : Env N) (heap other : HeapOf N) (r : Rec N) → goes_on e deep rest env heap r Done → Holds w.same other r → (e ≡ Done) × goes_on Done deep rest env other r Done
  on_again deep st Done rest env heap other r h k = (refl, st rest env heap other r h k)
  on_again deep st (Stop c n) rest env heap other r h k = not_done c n h.1

  act_again : (room : ℕ) (deep : Traces N) → Stands deep → (a : Action N) (rest : List Stmt) (env : Env N) (heap other : HeapOf N) (r : Rec N) → acts room deep a rest env heap r Done → Holds w.same other r → acts room deep a rest env other r Done
  act_again room deep st (Bind x v) rest env heap other r h k = st rest (bind x v env) heap other r h k
  act_again room deep st (Make d) rest env heap other (A m r) h k = st rest (bind d (ref m) env) heap other r h k
  act_again room deep st (Put m v) rest env heap other (W n u r) h k = (h.0, h.1, st rest env ((n, u) ∷ heap) ((n, u) ∷ other) r h.2 k)
  act_again room deep st (Body body inner) rest env heap other (S t r) h k =
      let g = on_again deep st h.0 rest env (writes t ++ heap) (writes t ++ other) r h.2 k.1 in
      (Done, st body inner heap other t (subst (λ e. deep body inner heap t e) g.0 h.1) k.0, g.1)
  act_again room deep st (Block block reads body inner) rest env heap other (S (R level b f seen t) r) h k =
      let i = h.4 in
      let g = on_again deep st i.0 rest env (writes t ++ heap) (writes t ++ other) r i.2 k.1 in
      (h.0, h.1, h.2, h.3, (Done, st body inner heap other t (subst (λ e. deep body inner heap t e) g.0 i.1) k.0.1, g.1))
  act_again room deep st (Sides left right) rest env heap other (S (P l c) r) h k =
      let g = on_again deep st (first_stop h.0 h.1) rest env (writes c ++ (writes l ++ heap)) (writes c ++ (writes l ++ other)) r h.4 (subst (λ z. Holds w.same z r) (append_assoc (writes c) (writes l) other) k.1) in
      let d = first_left h.0 h.1 g.0 in
      (Done, Done, st left env heap other l (subst (λ e. deep left env heap l e) d.0 h.2) k.0.0, st right env (writes l ++ heap) (writes l ++ other) c (subst (λ e. deep right env (writes l ++ heap) c e) d.1 h.3) k.0.1, g.1)
  act_again room deep st _ rest env heap other _ h k = absurd h

  block_sees : (room : ℕ) (deep : Traces N) (block : ℕ) (reads : Reads N) (body rest : List Stmt) (inner env : Env N) (heap other : HeapOf N) (r : Rec N) → acts room deep (Block block reads body inner) rest env heap r Done → Holds w.same other r → Sees w.same other reads
  block_sees room deep block reads body rest inner env heap other (S (R level b f seen t) r) h k = subst (Sees w.same other) (sym h.3) k.0.0
  block_sees room deep block reads body rest inner env heap other _ h k = absurd h

  action_again : (room : ℕ) (deep : Traces N) (s : Stmt-F Stmt) (rest : List Stmt) (env : Env N) (heap other : HeapOf N) (r : Rec N) (a : Action N) → action_of (listed w) w funcs env heap s ≡ Ok a → acts room deep a rest env heap r Done → Holds w.same other r → action_of (listed w) w funcs env other s ≡ Ok a
  action_again room deep (Stmt-F.Let line x e) rest env heap other r a h t k = h
  action_again room deep (Stmt-F.New line d) rest env heap other r a h t k = h
  action_again room deep (Stmt-F.Write line d e) rest env heap other r a h t k = h
  action_again room deep (Stmt-F.Read line block items body) rest env heap other r a h t k =
      let b = ok_then (in_order (map (read_of (listed w) w env heap) items)) _ a h in
      let is : Block block b.0 body (with_reads env items b.0) ≡ a = ok_is b.2 in
      let sees = block_sees room deep block b.0 body rest (with_reads env items b.0) env heap other r (subst (λ z. acts room deep z rest env heap r Done) (sym is) t) k in
      rw (reads_there w env heap other items b.0 b.0 b.1 refl sees) (ap Ok is)
  action_again room deep (Stmt-F.If line e first second) rest env heap other r a h t k = h
  action_again room deep (Stmt-F.Par line left right) rest env heap other r a h t k = h
  action_again room deep (Stmt-F.Call line f values dests) rest env heap other r a h t k = h

  step_again : (room : ℕ) (deep : Traces N) → Stands deep → (s : Stmt-F Stmt) (line : ℕ) (rest : List Stmt) (env : Env N) (heap other : HeapOf N) (r : Rec N) (o : Result (Action N) FaultKind) → action_of (listed w) w funcs env heap s ≡ o → acts_or_stops room deep o line rest env heap r Done → Holds w.same other r → acts_or_stops room deep (action_of (listed w) w funcs env other s) line rest env other r Done
  step_again room deep st s line rest env heap other r (Ok a) is h k = rw (action_again room deep s rest env heap other r a is h k) (act_again room deep st a rest env heap other r h k)
  step_again room deep st s line rest env heap other r (Err c) is h k = not_done c line h.1

  -- what a repair keeps: a record whose reads see the same stands over the new heap
  pub traced_again : (room : ℕ) → Stands (traced w funcs room)
  unfolding traced
  traced_again room [] env heap other r h k = h
  traced_again zero (s ∷ rest) env heap other r h k = not_done _ _ h.1
  traced_again (suc room) (s ∷ rest) env heap other r h k =
      step_again room (traced w funcs room) (traced_again room) (out-Stmt s) (line_of (out-Stmt s)) rest env heap other r _ refl h k
