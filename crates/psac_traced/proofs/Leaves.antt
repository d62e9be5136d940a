-- Each run by paths leaves a record: the relation is met for every body.
use Rattle.std.proofs.Common.{◌≡◌, ℕ, suc, zero, List, [], ◌∷◌, ◌++◌, Result, Ok, Err, refl, ap, sym, ◌∙◌, subst, append_assoc}
use Rattle.psac_ops.specs.Value.{ref}
use Rattle.psac_syntax.specs.declared.program.Stmt.{Stmt, out-Stmt}
use Rattle.psac_syntax.specs.declared.program.Func.{Func}
use Rattle.psac_model.specs.declared.ends.FaultKind.{FaultKind}
use Rattle.psac_model.specs.declared.ends.FaultKind.TheVariants.{TooDeep}
use Rattle.psac_model.specs.declared.ends.End.{End}
use Rattle.psac_model.specs.declared.ends.End.TheVariants.{Done, Stop}
use Rattle.psac_model.specs.Names.{Path, Name, Made, Env, Heap, bind, same_name}
use Rattle.psac_model.specs.Expression.{Setting}
use Rattle.psac_model.specs.Tree as tree
use Rattle.psac_model.specs.Run.{Ran, Deeper, Action, Bind, Make, Put, Body, Block, Sides, action_of, line_of, first_stop, act, act_or_stop, sequence_by, sequence, under, by_path, run, run_none, run_full, run_more}
use Rattle.psac_traced.specs.Rec.{Rec, E, A, W, S, P, R, writes, tree_of}
use Rattle.psac_traced.specs.Traced.{Traces, goes_on, acts, acts_or_stops, traced}
use Rattle.psac_traced.specs.Places.{Placed}
use Rattle.psac_traced.proofs.Paths.{ran, action_is}

-- a record of what a run gave from a path on, of which this is said
pub record Left (p : Path) (heap : Heap) (Q : Rec Name → End → Type 0) (gave : Ran Name Heap) : Type 0 where
  pub rec : Rec Name
  pub end : End
  pub placed : Placed p rec
  pub stands : Q rec end
  pub is : gave ≡ ran rec heap end

-- the same of the rest behind a compound statement
record LeftBehind (p : Path) (heap : Heap) (t : Rec Name) (Q : Rec Name → End → Type 0) (gave : Ran Name Heap) : Type 0 where
  rest : Rec Name
  end : End
  placed : Placed p rest
  stands : Q rest end
  is : gave ≡ ran (S t rest) heap end

module _ (u : Setting Name) (plain : u.same ≡ same_name) (funcs : List Func) where
  abbrev Leaves : Traces Name → Deeper Name Heap → Type 0
  Leaves deep by = (body : List Stmt) (env : Env Name) (heap : Heap) (p : Path) → Left p heap (deep body env heap) (by body env heap p)

  at_once : (p : Path) (heap : Heap) (e : End) → Left p heap (λ r end. (r ≡ E) × (end ≡ e)) (record { tree = tree.E; heap = heap; end = e })
  at_once p heap e = record { rec = E; end = e; placed = tt; stands = (refl, refl); is = refl }

  module _ (room : ℕ) (deep : Traces Name) (by : Deeper Name Heap) (leaves : Leaves deep by) where
    seq_leaves : (e : End) (t : Rec Name) (wt : Heap) → writes t ≡ wt → (rest : List Stmt) (env : Env Name) (heap : Heap) (p : Path) → LeftBehind p heap t (λ r end. goes_on e deep rest env (wt ++ heap) r end) (sequence_by e (record { tree = tree_of t; heap = wt ++ heap; end = e }) (λ after. by rest env after p))
    seq_leaves Done t wt w rest env heap p =
        let l = leaves rest env (wt ++ heap) p in
        record {
          rest = l.rec;
          end = l.end;
          placed = l.placed;
          stands = l.stands;
          is = ap (under (tree.S (tree_of t))) l.is ∙ rw (w, append_assoc (writes l.rec) wt heap) refl;
        }
    seq_leaves (Stop k line) t wt w rest env heap p =
        record { rest = E; end = Stop k line; placed = tt; stands = (refl, refl); is = rw w refl }

    act_leaves : (a : Action Name) (rest : List Stmt) (env : Env Name) (heap : Heap) (p : Path) → Left p heap (acts room deep a rest env heap) (act by_path by a rest env heap p)
    act_leaves (Bind x v) rest env heap p = leaves rest (bind x v env) heap p
    act_leaves (Make d) rest env heap p =
        let l = leaves rest (bind d (ref (Made p)) env) heap (p ++ 3 ∷ []) in
        record { rec = A (Made p) l.rec; end = l.end; placed = (refl, l.placed); stands = l.stands; is = ap (under tree.A) l.is }
    act_leaves (Put m v) rest env heap p =
        let l = leaves rest env ((m, v) ∷ heap) (p ++ 3 ∷ []) in
        record {
          rec = W m v l.rec;
          end = l.end;
          placed = l.placed;
          stands = (refl, refl, l.stands);
          is = ap (under (tree.W m v)) l.is ∙ rw (append_assoc (writes l.rec) ((m, v) ∷ []) heap) refl;
        }
    act_leaves (Body body inner) rest env heap p =
        let t = leaves body inner heap (p ++ 0 ∷ []) in
        let s = seq_leaves t.end t.rec (writes t.rec) refl rest env heap (p ++ 1 ∷ []) in
        record {
          rec = S t.rec s.rest;
          end = s.end;
          placed = (t.placed, s.placed);
          stands = (t.end, t.stands, s.stands);
          is = ap (λ z. sequence z (λ after. by rest env after (p ++ 1 ∷ []))) t.is ∙ s.is;
        }
    act_leaves (Block block reads body inner) rest env heap p =
        let t = leaves body inner heap (p ++ 0 ∷ 2 ∷ []) in
        let r = R room block env reads t.rec in
        let s = seq_leaves t.end r (writes t.rec) refl rest env heap (p ++ 1 ∷ []) in
        record {
          rec = S r s.rest;
          end = s.end;
          placed = (subst (λ z. Placed z t.rec) (sym (append_assoc p (0 ∷ []) (2 ∷ []))) t.placed, s.placed);
          stands = (refl, refl, refl, refl, (t.end, t.stands, s.stands));
          is = ap (λ z. sequence (under (tree.R block env reads) z) (λ after. by rest env after (p ++ 1 ∷ []))) t.is ∙ s.is;
        }
    act_leaves (Sides left right) rest env heap p =
        let l = leaves left env heap (p ++ 0 ∷ 0 ∷ []) in
        let k = leaves right env (writes l.rec ++ heap) (p ++ 0 ∷ 1 ∷ []) in
        let both = P l.rec k.rec in
        let e = append_assoc (writes k.rec) (writes l.rec) heap in
        let s = seq_leaves (first_stop l.end k.end) both (writes k.rec ++ writes l.rec) refl rest env heap (p ++ 1 ∷ []) in
        record {
          rec = S both s.rest;
          end = s.end;
          placed = (
            (subst (λ z. Placed z l.rec) (sym (append_assoc p (0 ∷ []) (0 ∷ []))) l.placed, subst (λ z. Placed z k.rec) (sym (append_assoc p (0 ∷ []) (1 ∷ []))) k.placed),
            s.placed,
          );
          stands = (l.end, k.end, l.stands, k.stands, subst (λ h. goes_on (first_stop l.end k.end) deep rest env h s.rest s.end) e s.stands);
          is = rw (l.is, k.is, ← e) s.is;
        }

    step_leaves : (o : Result (Action Name) FaultKind) (line : ℕ) (rest : List Stmt) (env : Env Name) (heap : Heap) (p : Path) → Left p heap (acts_or_stops room deep o line rest env heap) (act_or_stop by_path by o line rest env heap p)
    step_leaves (Ok a) line rest env heap p = act_leaves a rest env heap p
    step_leaves (Err k) line rest env heap p = at_once p heap (Stop k line)

  -- a run by paths leaves a record whose modifiables have their paths for names, with its tree, its writes and its end
  pub run_leaves : (room : ℕ) → Leaves (traced u funcs room) (run by_path u funcs room)
  unfolding traced
  run_leaves room [] env heap p = rw (run_none by_path u funcs room env heap p) (at_once p heap Done)
  run_leaves zero (s ∷ rest) env heap p = rw (run_full by_path u funcs s rest env heap p) (at_once p heap (Stop TooDeep (line_of (out-Stmt s))))
  run_leaves (suc room) (s ∷ rest) env heap p =
      rw (run_more by_path u funcs room s rest env heap p)
      (subst (λ o. Left p heap (acts_or_stops room (traced u funcs room) o (line_of (out-Stmt s)) rest env heap) (act_or_stop by_path (run by_path u funcs room) (action_of by_path u funcs env heap (out-Stmt s)) (line_of (out-Stmt s)) rest env heap p)) (sym (action_is u plain funcs env heap (out-Stmt s)))
      (step_leaves room (traced u funcs room) (run by_path u funcs room) (run_leaves room) (action_of by_path u funcs env heap (out-Stmt s)) (line_of (out-Stmt s)) rest env heap p))
