-- A record that a run may leave, with each made modifiable named by its path, is what the run by paths gives.
use Rattle.std.proofs.Common.{◌≡◌, ℕ, suc, zero, true, if◌then◌else◌, List, [], ◌∷◌, ◌++◌, Option, Some, Result, Ok, Err, refl, ap, sym, ◌∙◌, subst, append_assoc}
use Rattle.psac_ops.specs.Value.{Value, ref}
use Rattle.psac_syntax.specs.declared.program.Stmt.{Stmt, out-Stmt}
use Rattle.psac_syntax.specs.declared.program.Stmt.TheOpen.{Stmt-F}
use Rattle.psac_syntax.specs.declared.program.Func.{Func}
use Rattle.psac_model.specs.declared.ends.FaultKind.{FaultKind}
use Rattle.psac_model.specs.declared.ends.End.{End}
use Rattle.psac_model.specs.declared.ends.End.TheVariants.{Done, Stop}
use Rattle.psac_model.specs.Names.{Path, Name, Made, Env, Heap, bind, held, same_name}
use Rattle.psac_model.specs.Expression.{Setting}
use Rattle.psac_model.specs.Run.{Store, Ran, Deeper, Action, Bind, Make, Put, Body, Block, Sides, action_of, line_of, first_stop, act, act_or_stop, sequence_by, by_path, run, run_none, run_full, run_more}
use Rattle.psac_traced.specs.Rec.{Rec, A, W, S, P, R, held_by, writes, tree_of}
use Rattle.psac_traced.specs.Traced.{Traces, listed, goes_on, acts, acts_or_stops, traced}
use Rattle.psac_traced.specs.Places.{Placed}

-- what a run has given that left the record
abbrev pub ran : Rec Name → Heap → End → Ran Name Heap
ran r heap end = record { tree = tree_of r; heap = writes r ++ heap; end = end }

held_is : (heap : Heap) (m : Name) → held_by same_name heap m ≡ held heap m
held_is [] m = refl
held_is (pair ∷ heap) m = ap (λ o. if same_name pair.0 m then Some pair.1 else o) (held_is heap m)

-- a list that is read by another test
abbrev read_by : (Heap → Name → Option (Value Name)) → Store Name Heap
read_by get =
    record { fresh = λ path heap. Made path; opened = λ heap m. heap; get = get; put = λ heap m v. (m, v) ∷ heap; left_first = λ path. true }

module _ (u : Setting Name) (plain : u.same ≡ same_name) (funcs : List Func) where
  held_plain : held_by u.same ≡ held
  held_plain = ap held_by plain ∙ (λ i heap m. held_is heap m i)

  pub action_is : (env : Env Name) (heap : Heap) (s : Stmt-F Stmt) → action_of (listed u) u funcs env heap s ≡ action_of by_path u funcs env heap s
  action_is env heap (Stmt-F.Let line x e) = refl
  action_is env heap (Stmt-F.New line d) = refl
  action_is env heap (Stmt-F.Write line d e) = refl
  action_is env heap (Stmt-F.Read line block items body) = ap (λ g. action_of (read_by g) u funcs env heap (Stmt-F.Read line block items body)) held_plain
  action_is env heap (Stmt-F.If line e first second) = refl
  action_is env heap (Stmt-F.Par line left right) = refl
  action_is env heap (Stmt-F.Call line f values dests) = refl

  abbrev pub Is : Traces Name → Deeper Name Heap → Type 0
  Is deep by = (body : List Stmt) (env : Env Name) (heap : Heap) (p : Path) (r : Rec Name) (end : End) → Placed p r → deep body env heap r end → by body env heap p ≡ ran r heap end

  module _ (room : ℕ) (deep : Traces Name) (by : Deeper Name Heap) (is : Is deep by) where
    seq_is : (e : End) (t : Rec Name) (wt : Heap) → writes t ≡ wt → (rest : List Stmt) (env : Env Name) (heap : Heap) (p : Path) (r : Rec Name) (end : End) → Placed p r → goes_on e deep rest env (wt ++ heap) r end → sequence_by e (record { tree = tree_of t; heap = wt ++ heap; end = e }) (λ after. by rest env after p) ≡ ran (S t r) heap end
    seq_is Done t wt w rest env heap p r end pl g = rw (is rest env (wt ++ heap) p r end pl g, w, append_assoc (writes r) wt heap) refl
    seq_is (Stop k n) t wt w rest env heap p r end pl g = rw (g.0, g.1, w) refl

    act_is : (a : Action Name) (rest : List Stmt) (env : Env Name) (heap : Heap) (p : Path) (r : Rec Name) (end : End) → Placed p r → acts room deep a rest env heap r end → act by_path by a rest env heap p ≡ ran r heap end
    act_is (Bind x v) rest env heap p r end pl g = is rest (bind x v env) heap p r end pl g
    act_is (Make d) rest env heap p (A m r) end pl g =
        let h = subst (λ k. deep rest (bind d (ref k) env) heap r end) pl.0 g in
        rw (is rest (bind d (ref (Made p)) env) heap (p ++ 3 ∷ []) r end pl.1 h) refl
    act_is (Put m v) rest env heap p (W n x r) end pl g =
        rw (g.0, g.1, is rest env ((n, x) ∷ heap) (p ++ 3 ∷ []) r end pl g.2, append_assoc (writes r) ((n, x) ∷ []) heap) refl
    act_is (Body body inner) rest env heap p (S t r) end pl g =
        rw (is body inner heap (p ++ 0 ∷ []) t g.0 pl.0 g.1) (seq_is g.0 t (writes t) refl rest env heap (p ++ 1 ∷ []) r end pl.1 g.2)
    act_is (Block block reads body inner) rest env heap p (S (R level c f seen t) r) end pl g =
        let i = g.4 in
        let q = subst (λ z. Placed z t) (append_assoc p (0 ∷ []) (2 ∷ [])) pl.0 in
        rw (g.1, g.3, is body inner heap (p ++ 0 ∷ 2 ∷ []) t i.0 q i.1)
        (subst (λ z. sequence_by i.0 (record { tree = tree_of (R level c env seen t); heap = writes t ++ heap; end = i.0 }) (λ after. by rest env after (p ++ 1 ∷ [])) ≡ ran (S (R level c z seen t) r) heap end) g.2
        (seq_is i.0 (R level c env seen t) (writes t) refl rest env heap (p ++ 1 ∷ []) r end pl.1 i.2))
    act_is (Sides left right) rest env heap p (S (P l k) r) end pl g =
        let e = append_assoc (writes k) (writes l) heap in
        let ql = subst (λ z. Placed z l) (append_assoc p (0 ∷ []) (0 ∷ [])) pl.0.0 in
        let qk = subst (λ z. Placed z k) (append_assoc p (0 ∷ []) (1 ∷ [])) pl.0.1 in
        rw (is left env heap (p ++ 0 ∷ 0 ∷ []) l g.0 ql g.2, is right env (writes l ++ heap) (p ++ 0 ∷ 1 ∷ []) k g.1 qk g.3, ← e)
        (seq_is (first_stop g.0 g.1) (P l k) (writes k ++ writes l) refl rest env heap (p ++ 1 ∷ []) r end pl.1 (subst (λ z. goes_on (first_stop g.0 g.1) deep rest env z r end) (sym e) g.4))
    act_is _ rest env heap p _ end pl g = absurd g

    step_is : (o : Result (Action Name) FaultKind) (line : ℕ) (rest : List Stmt) (env : Env Name) (heap : Heap) (p : Path) (r : Rec Name) (end : End) → Placed p r → acts_or_stops room deep o line rest env heap r end → act_or_stop by_path by o line rest env heap p ≡ ran r heap end
    step_is (Ok a) line rest env heap p r end pl g = act_is a rest env heap p r end pl g
    step_is (Err k) line rest env heap p r end pl g = rw (g.0, g.1) refl

  pub traced_is : (room : ℕ) → Is (traced u funcs room) (run by_path u funcs room)
  unfolding traced
  traced_is room [] env heap p r end pl g = rw (run_none by_path u funcs room env heap p, g.0, g.1) refl
  traced_is zero (s ∷ rest) env heap p r end pl g = rw (run_full by_path u funcs s rest env heap p, g.0, g.1) refl
  traced_is (suc room) (s ∷ rest) env heap p r end pl g =
      rw (run_more by_path u funcs room s rest env heap p)
      (step_is room (traced u funcs room) (run by_path u funcs room) (traced_is room) (action_of by_path u funcs env heap (out-Stmt s)) (line_of (out-Stmt s)) rest env heap p r end pl
      (subst (λ o. acts_or_stops room (traced u funcs room) o (line_of (out-Stmt s)) rest env heap r end) (action_is env heap (out-Stmt s)) g))
