-- A run of a checked program: each statement, and then the whole run.
use Rattle.std.proofs.Common.{◌≡◌, ℕ, suc, zero, ◌&&◌, true, false, if◌then◌else◌, List, [], ◌∷◌, ◌++◌, map, Option, Some, None, Result, Ok, Err, refl, ap, sym, ◌∙◌, subst, inl, inr}
use Rattle.psac_ops.specs.Value.{Value, ref}
use Rattle.psac_syntax.specs.declared.program.Stmt.{Stmt, out-Stmt}
use Rattle.psac_syntax.specs.declared.program.Stmt.TheOpen.{Stmt-F}
use Rattle.psac_syntax.specs.declared.program.Func.{Func}
use Rattle.psac_model.specs.declared.ends.FaultKind.{FaultKind}
use Rattle.psac_model.specs.declared.ends.FaultKind.TheVariants.{Kind, TooDeep}
use Rattle.psac_model.specs.declared.ends.End.TheVariants.{Done, Stop}
use Rattle.psac_model.specs.Names.{Path, Name, Made, Env, Heap, bound, bind, held}
use Rattle.psac_model.specs.Expression.{Setting, value_of, in_order}
use Rattle.psac_model.specs.Run.{Manner, by_path, by_path_in, Deeper, Action, Body, action_of, read_of, act_or_stop, line_of, as_bool, destination, reference, func_named, bound_to, call_of, run, run_none, run_full, run_more}
use Rattle.psac_model.specs.Series.{has, without, all_in}
use Rattle.psac_laws.specs.Standing.{every, distinct, Standing, is_new, settled, names_known, series_step, series_of, series, left_by, params, MeetsSeries, with_values}
use Rattle.psac_laws.proofs.Places.{some_is, and_is, not_true, test_or, not_both}
use Rattle.psac_laws.proofs.Heaps.{Known}
use Rattle.psac_laws.proofs.Good.{good_by, good_more}
use Rattle.psac_laws.proofs.Steps.{good_at_once, at_once_runs}
use Rattle.psac_laws.proofs.Rules.{all_in_from, all_in_has, only_if_is, then_is, leaves, has_without, without_has, without_within, opened, steps}
use Rattle.psac_laws.proofs.Values.{Where, Each, where_at, in_order_each, values_known}
use Rattle.psac_laws.proofs.Safe.{wider_path, Target, May, Safe, safe_bind, safe_make, ref_is}
use Rattle.psac_laws.proofs.Results.{result_or, destination_is}
use Rattle.psac_laws.proofs.Asks.{reads_match, known_at, asks_same}
use Rattle.psac_laws.proofs.Acts.{Sound, acted, Goes, put_next, inner_good, branch_goes, block_goes, sides_goes, result_fine}
use Rattle.psac_laws.proofs.Calls.{distinct_parts, to_old, to_known, linked}

own : (xs : List ℕ) → all_in xs xs ≡ true
own xs = all_in_from xs xs (λ x k. k)

module _ (w : Setting Name) (funcs : List Func) (checked : (f : ℕ) (g : Func) → func_named f funcs ≡ Some g → MeetsSeries g) where
  module _ (fs : Manner → Deeper Name Heap) (sound : Sound w fs) (line : ℕ) (rest : List Stmt) (st mid end : Standing) (env : Env Name) (h : Heap) (path : Path) (more : series rest mid ≡ Some end) (s : Safe w st env h path) where
    abbrev goes : Result (Action Name) FaultKind → Type 0
    goes r = Where (Goes w funcs fs sound line rest st mid end env h path more s) r

    stop : (k : FaultKind) → goes (Err k)
    stop k = tt

    call_goes : (g : Func) (dests : List ℕ) (vs ds : List (Value Name)) (first inner : Env Name) → MeetsSeries g → all_in dests st.unwritten ≡ true → distinct dests ≡ true → settled (without dests st.unwritten) st ≡ mid → Each (Known h) vs → in_order (map (reference env) dests) ≡ Ok ds → bound_to g.values vs [] ≡ Ok first → bound_to g.dests ds first ≡ Ok inner → goes (Ok (Body g.body inner))
    call_goes g dests vs ds first inner meets within once q known named values targets =
        let left = without dests st.unwritten in
        let p = path ++ 0 ∷ [] in
        let d = distinct_parts g.values g.dests meets.header in
        let l = leaves (map series_of g.body) (params g) [] meets.body in
        let k = linked env g.dests dests ds first inner named targets d.second once (λ x y m i j e f. s.apart x y m (all_in_has x dests st.unwritten within i) (all_in_has y dests st.unwritten within j) e f) in
        let outward : (x : ℕ) (m : Name) → has x g.dests ≡ true → bound x inner ≡ Some (ref m) → (c : ℕ) × (has c dests ≡ true) × (bound c env ≡ Some (ref m)) = λ x m i e.
        let t = k.to x i in
        let same : t.2.0 ≡ m = ref_is (sym t.2.2 ∙ e) in
        (t.0, t.1, t.2.1 ∙ ap (λ n. Some (ref n)) same) in
        let safe : Safe w (params g) inner h p = record {
          closed = s.closed;
          cells = s.cells;
          row_count = s.row_count;
          names = s.names;
          knows = λ x i.
              let v = to_known h x g.values vs [] first known values i in
              (v.0, to_old x g.dests ds first inner targets (d.between x i) ∙ v.1, v.2);
          opens = λ x i.
              let t = k.to x i in
              let o = s.opens t.0 (all_in_has t.0 dests st.unwritten within t.1) in
              (t.2.0, t.2.2, subst (λ n. held h n ≡ None) (ref_is (sym o.1 ∙ t.2.1)) o.2);
          apart = λ x y m i j e f. k.once x y m i j e f;
          fresh = λ m u. s.fresh m (wider_path path (0 ∷ []) m u);
          away = λ x m i e u.
              let t = outward x m i e in
              s.away t.0 m (all_in_has t.0 dests st.unwritten within t.1) t.2 (wider_path path (0 ∷ []) m u);
        } in
        let r = inner_good w funcs fs sound line rest st mid end env h path more s g.body (params g) inner p [] l safe in
        let gone : (c : ℕ) → has c dests ≡ true → has c left ≡ false = λ c i. not_true (has c left) (λ t. not_both i (has_without c dests st.unwritten t).1) in (
          record { names = params g; after = l.end; meets = l.meets; safe = safe },
          record {
            left = left;
            within = without_within dests st.unwritten;
            settles_to = q;
            good = good_more (May (params g) [] inner p) (Target (params g) [] inner) (May st left env p) (Target st left env) h (λ a g'. fs a g.body inner g' p) r
                (λ m y. elim y [
                  | inl u ↦ inl u
                  | inr t ↦ (let o = outward t.0 m t.1 t.3 in inr (o.0, all_in_has o.0 dests st.unwritten within o.1, gone o.0 o.1, o.2))
                ])
                (λ m t.
                let i : has t.0 dests ≡ true = elim (test_or (has t.0 dests)) [ inl e ↦ e | inr e ↦ absurd (not_both (without_has t.0 dests st.unwritten t.1 e) t.2) ] in
                let o = k.from t.0 i in
                let same : o.2.0 ≡ m = ref_is (sym o.2.1 ∙ t.3) in
                (o.0, o.1, refl, o.2.2 ∙ ap (λ n. Some (ref n)) same));
          },
        )

    called_goes : (o : Option Func) (dests : List ℕ) (vs ds : List (Value Name)) → ((g : Func) → o ≡ Some g → MeetsSeries g) → all_in dests st.unwritten ≡ true → distinct dests ≡ true → settled (without dests st.unwritten) st ≡ mid → Each (Known h) vs → in_order (map (reference env) dests) ≡ Ok ds → goes (call_of o vs ds)
    called_goes None dests vs ds meets within once q known named = stop Kind
    called_goes (Some g) dests vs ds meets within once q known named =
        result_or goes (bound_to g.values vs []) _ stop (λ first e.
        result_or goes (bound_to g.dests ds first) _ stop (λ inner f.
        call_goes g dests vs ds first inner (meets g refl) within once q known named e f))

    pub act_goes : (y : Stmt-F Stmt) → series_step (opened y) st ≡ Some mid → goes (action_of by_path w funcs env h y)
    act_goes (Stmt-F.Let at x e) t =
        let a = only_if_is _ _ mid t in
        let b = and_is (names_known st.known e) (is_new st x) a.0 in
        result_or goes (value_of w env e) _ stop (λ v q.
        let k = where_at (Known h) (value_of w env e) v q (known_at w env funcs st h path s e b.0) in
        (b.1, some_is a.1, k, subst (λ z. Safe w z (bind x v env) h path) (some_is a.1) (safe_bind w st env h path x v s b.1 k)))
    act_goes (Stmt-F.New at d) t =
        let a = only_if_is _ _ mid t in
        (a.0, some_is a.1, subst (λ z. Safe w z (bind d (ref (Made path)) env) h (path ++ 3 ∷ [])) (some_is a.1) (safe_make w st env h path d s a.0))
    act_goes (Stmt-F.Write at d e) t =
        let a = only_if_is _ _ mid t in
        let b = and_is (names_known st.known e) (has d st.unwritten) a.0 in
        result_or goes (value_of w env e) _ stop (λ v q.
        result_or goes (destination env d) _ stop (λ m r.
        let k = where_at (Known h) (value_of w env e) v q (known_at w env funcs st h path s e b.0) in
        let t = destination_is env d m r in
        let o = s.opens d b.1 in (
          subst (λ n. held h n ≡ None) (ref_is (sym o.1 ∙ t)) o.2,
          subst (λ z. Safe w z env ((m, v) ∷ h) (path ++ 3 ∷ [])) (some_is a.1) (put_next w funcs fs sound line rest st mid end env h path more s d m v b.1 t k),
          (d, b.1, some_is a.1, t),
        )))
    act_goes (Stmt-F.Read at block items body) t =
        let a = only_if_is _ _ mid t in
        let b = then_is (with_values items st) _ mid a.1 in
        let c = then_is (left_by (map series_of body) b.0) _ mid b.2 in
        result_or goes (in_order (map (read_of by_path w env h) items)) _ stop (λ reads q.
        block_goes w funcs fs sound line rest st mid end env h path more s block items reads body b.0 c.0 (reads_match w env h items reads q) b.1 (leaves (map series_of body) b.0 c.0 c.1) (some_is c.2))
    act_goes (Stmt-F.If at e first second) t =
        let a = only_if_is _ _ mid t in
        let b = then_is (left_by (map series_of first) st) _ mid a.1 in
        let c = then_is (left_by (map series_of second) st) _ mid b.2 in
        let d = only_if_is _ _ mid c.2 in
        let both = and_is (all_in b.0 c.0) (all_in c.0 b.0) d.0 in
        let l = leaves (map series_of first) st b.0 b.1 in
        let r = leaves (map series_of second) st c.0 c.1 in
        result_or goes (value_of w env e) _ stop (λ v q.
        result_or goes (as_bool v) _ stop (λ test p.
        elim test as (λ z. goes (Ok (Body (if z then first else second) env))) [
          | true ↦ branch_goes w funcs fs sound line rest st mid end env h path more s first b.0 b.0 l (own b.0) (own b.0) l.within (some_is d.1)
          | false ↦ branch_goes w funcs fs sound line rest st mid end env h path more s second b.0 c.0 r both.0 both.1 l.within (some_is d.1)
        ]))
    act_goes (Stmt-F.Par at left right) t =
        let b = then_is (left_by (map series_of left) st) _ mid t in
        let c = then_is (left_by (map series_of right) st) _ mid b.2 in
        let d = only_if_is _ _ mid c.2 in
        sides_goes w funcs fs sound line rest st mid end env h path more s left right b.0 c.0 (leaves (map series_of left) st b.0 b.1) (leaves (map series_of right) st c.0 c.1) d.0 (some_is d.1)
    act_goes (Stmt-F.Call at f values dests) t =
        let a = only_if_is _ _ mid t in
        let b = and_is (every (map (names_known st.known) values) && all_in dests st.unwritten) (distinct dests) a.0 in
        let c = and_is (every (map (names_known st.known) values)) (all_in dests st.unwritten) b.0 in
        result_or goes (in_order (map (value_of w env) values)) _ stop (λ vs q.
        result_or goes (in_order (map (reference env) dests)) _ stop (λ ds r.
        called_goes (func_named f funcs) dests vs ds (checked f) c.1 b.1 (some_is a.1)
        (where_at (Each (Known h)) (in_order (map (value_of w env) values)) vs q (in_order_each (Known h) (map (value_of w env) values) (values_known h w s.cells s.row_count s.names env st.known s.knows values c.0))) r))

  pub run_sound : (room : ℕ) → Sound w (λ a. run (by_path_in a) w funcs room)
  run_sound room [] st end env h path t s =
      good_by (May st end.unwritten env path) (Target st end.unwritten env) h (at_once_runs Done) _
      (good_at_once (May st end.unwritten env path) (Target st end.unwritten env) h Done s.closed (λ e m z. absurd (not_both z.1 (subst (λ (i : Standing). has z.0 i.unwritten ≡ false) (sym (some_is t)) z.2))))
      (λ a g fa wi. sym (run_none (by_path_in a) w funcs room env g path))
  run_sound zero (x ∷ rest) st end env h path t s =
      good_by (May st end.unwritten env path) (Target st end.unwritten env) h (at_once_runs (Stop TooDeep (line_of (out-Stmt x)))) _
      (good_at_once (May st end.unwritten env path) (Target st end.unwritten env) h (Stop TooDeep (line_of (out-Stmt x))) s.closed (λ e m z. absurd (let c : Stop TooDeep (line_of (out-Stmt x)) ≡ Done = e in cc)))
      (λ a g fa wi. sym (run_full (by_path_in a) w funcs x rest env g path))
  run_sound (suc room) (x ∷ rest) st end env h path t s =
      let p = steps x rest st end t in
      let fs : Manner → Deeper Name Heap = λ a. run (by_path_in a) w funcs room in
      let line = line_of (out-Stmt x) in
      let r = result_fine w funcs fs (run_sound room) line rest st p.mid end env h path p.rest s (action_of by_path w funcs env h (out-Stmt x)) (act_goes fs (run_sound room) line rest st p.mid end env h path p.rest s (out-Stmt x) p.first) in
      good_by (May st end.unwritten env path) (Target st end.unwritten env) h (acted w funcs fs (run_sound room) line rest st p.mid end env h path p.rest s (action_of by_path w funcs env h (out-Stmt x))) _ r
      (λ a g fa wi.
      ap (λ z. act_or_stop (by_path_in a) (fs a) z line rest env g path) (sym (asks_same w env funcs st h path s a g fa wi (out-Stmt x) p.mid p.first))
      ∙ sym (run_more (by_path_in a) w funcs room x rest env g path))
