-- From where a pass is ready, what a statement asks for begins as it needs.
use Rattle.std.proofs.Common.{◌≡◌, ℕ, suc, ◌&&◌, Bool, true, false, if◌then◌else◌, List, [], ◌∷◌, map, Option, Some, None, Result, Ok, Err, refl, ap, sym, ◌∙◌, subst, inl, inr}
use Rattle.psac_ops.specs.declared.plain.Handle.{Handle}
use Rattle.psac_ops.specs.Value.{Value, ref}
use Rattle.psac_ops.specs.Named.{same_handle}
use Rattle.psac_syntax.specs.declared.program.Expr.{Expr}
use Rattle.psac_syntax.specs.declared.program.Stmt.{Stmt, out-Stmt}
use Rattle.psac_syntax.specs.declared.program.Stmt.TheOpen.{Stmt-F}
use Rattle.psac_syntax.specs.declared.program.ReadItem.{ReadItem}
use Rattle.psac_syntax.specs.declared.program.Func.{Func}
use Rattle.psac_values.specs.declared.view.ValueView.{ValueView}
use Rattle.psac_values.specs.Knowing.{Has}
use Rattle.psac_model.specs.declared.ends.FaultKind.{FaultKind}
use Rattle.psac_model.specs.declared.ends.FaultKind.TheVariants.{Kind}
use Rattle.psac_model.specs.declared.ends.End.TheVariants.{Stop}
use Rattle.psac_model.specs.Names.{Env}
use Rattle.psac_model.specs.Expression.{Setting, value_of, in_order, or_kind}
use Rattle.psac_model.specs.Tree.{Reads}
use Rattle.psac_model.specs.Run.{Action, Body, action_of, read_of, line_of, target, as_bool, destination, reference, func_named, bound_to, call_of, with_reads}
use Rattle.psac_model.specs.Series.{has, without, all_in}
use Rattle.psac_laws.specs.Standing.{every, distinct, Standing, is_new, with_values, settled, names_known, reads_known, series_step, series_of, series, left_by, params, MeetsSeries}
use Rattle.psac_laws.proofs.Places.{none_some, some_is, and_is, not_true, test_or, not_both}
use Rattle.psac_laws.proofs.Rules.{all_in_has, all_in_not, all_in_from, only_if_is, then_is, Leaves, leaves, has_without, without_has, without_within, with_values_same, opened, steps}
use Rattle.psac_laws.proofs.Results.{ok_is, ok_then, or_kind_is, result_or}
use Rattle.psac_laws.proofs.Values.{Where, Each, where_at, in_order_each}
use Rattle.psac_laws.proofs.Calls.{distinct_parts}
use Rattle.psac_traced.specs.Rec.{Rec, E, held_by}
use Rattle.psac_traced.specs.Holds.{EachOf}
use Rattle.psac_cut.specs.CutShort.{cuts, cut_short}
use Rattle.psac_cut.proofs.Based.{cut_on_acts}
use Rattle.psac_traced.specs.Traced.{listed, acts, traced}
use Rattle.psac_trace.specs.Rights.{Heap, held, Named, Wider, Sees, Ready}
use Rattle.psac_trace.specs.Asking.{AllSought, Readable, Looked}
use Rattle.psac_trace.specs.Told.{Ended, Fault, Needs, Tells, AreChecked}
use Rattle.psac_trace.specs.Running.{Enters, Goes, NeedsAct, TellsAct, Sights}
use Rattle.psac_trace.proofs.Results.{destination_is, ref_is}
use Rattle.psac_trace.proofs.Asked.{sees_looked}
use Rattle.psac_trace.proofs.Valued.{value_known, values_known}
use Rattle.psac_trace.proofs.Called.{to_old, to_known, linked}
use Rattle.psac_trace.proofs.Moves.{narrow, ready_inner, ready_looked, ready_reads, Matches, moved_looked, still_looked}
use Rattle.psac_trace.proofs.Tells.{run_more, lift_told, same_ended}

own : (xs : List ℕ) → all_in xs xs ≡ true
own xs = all_in_from xs xs (λ x k. k)

module _ (w : Setting Handle) (env : Env Handle) where
  read_held : (base : Heap) (item : ReadItem) (r : Handle × Value Handle) → read_of (listed w) w env base item ≡ Ok r → held_by w.same base r.0 ≡ Some r.1
  read_held base item r e =
      let a = ok_then (value_of w env item.from) _ r e in
      let b = ok_then (target a.0) _ r a.2 in
      let c = ok_then (or_kind (held_by w.same base b.0)) _ r b.2 in
      let q : (b.0, c.0) ≡ r = ok_is c.2 in
      subst (λ (z : Handle × Value Handle). held_by w.same base z.0 ≡ Some z.1) q (or_kind_is (held_by w.same base b.0) c.0 c.1)

  pub reads_match : w.same ≡ same_handle → (base : Heap) (items : List ReadItem) (rs : Reads Handle) → in_order (map (read_of (listed w) w env base) items) ≡ Ok rs → Matches w base items rs
  reads_match same base [] [] e = tt
  reads_match same base [] (r ∷ rs) e = absurd cc
  reads_match same base (item ∷ items) rs e =
      let a = ok_then (read_of (listed w) w env base item) _ rs e in
      let b = ok_then (in_order (map (read_of (listed w) w env base) items)) _ rs a.2 in
      let q : a.0 ∷ b.0 ≡ rs = ok_is b.2 in
      subst (Matches w base (item ∷ items)) q (sym (ap (λ (z : Handle → Handle → Bool). held_by z base a.0.0) same) ∙ read_held base item a.0 a.1, reads_match same base items b.0 b.1)

  module _ (st : Standing) (left : List ℕ) (v : ValueView) (base : Heap) (r : Ready w st left env v base) where
    known_at : (e : Expr) → names_known st.known e ≡ true → Where (Named base) (value_of w env e)
    known_at = value_known base w r.cells r.row_count r.same env st.known r.knows

    sought : (heap : Heap) → Wider base heap → (items : List ReadItem) → reads_known st.known items ≡ true → AllSought w env v heap items
    sought heap wi [] t = tt
    sought heap wi (item ∷ items) t =
        let b = and_is (names_known st.known item.from) (reads_known st.known items) t in (
          λ m e. (let i = where_at (Named base) (value_of w env item.from) (ref m) e (known_at item.from b.0) in (i.0, wi m i.0 i.1, r.sees m i.0 i.1)),
          sought heap wi items b.1,
        )

    readable_at : (heap : Heap) → Wider base heap → (y : Stmt-F Stmt) (mid : Standing) → series_step (opened y) st ≡ Some mid → Readable w env v heap y
    readable_at heap wi (Stmt-F.Let line x e) mid t = tt
    readable_at heap wi (Stmt-F.New line d) mid t = tt
    readable_at heap wi (Stmt-F.Write line d e) mid t = tt
    readable_at heap wi (Stmt-F.Read line block items body) mid t = let b = only_if_is (reads_known st.known items) _ mid t in sought heap wi items b.0
    readable_at heap wi (Stmt-F.If line e first second) mid t = tt
    readable_at heap wi (Stmt-F.Par line ls rs) mid t = tt
    readable_at heap wi (Stmt-F.Call line f values dests) mid t = tt

module _ (w : Setting Handle) (funcs : List Func) (checked : AreChecked funcs) where
  module _ (rest : List Stmt) (st mid end : Standing) (env : Env Handle) (v : ValueView) (base : Heap) (more : series rest mid ≡ Some end) (r : Ready w st end.unwritten env v base) where
    abbrev goes : Result (Action Handle) FaultKind → Type 0
    goes o = Where (Goes w st mid env v base) o

    stop : (k : FaultKind) → goes (Err k)
    stop k = tt

    branch_enters : (body : List Stmt) (left took : List ℕ) → Leaves (map series_of body) st took → all_in left took ≡ true → all_in took left ≡ true → all_in left st.unwritten ≡ true → settled left st ≡ mid → Enters w st mid env v base body env
    branch_enters body left took l one two within q =
        let narrower : (x : ℕ) → has x l.end.unwritten ≡ false → has x left ≡ false = λ x e. all_in_not x left took one (subst (λ z. has x z ≡ false) l.unwritten e) in
        let wider : (x : ℕ) → has x left ≡ false → has x l.end.unwritten ≡ false = λ x e. subst (λ z. has x z ≡ false) (sym l.unwritten) (all_in_not x took left two e) in
        record {
          names = st;
          end = l.end;
          meets = l.meets;
          ready = ready_inner w st l.end.unwritten end.unwritten env v base (λ x u e. narrow rest st mid end left q more x u (narrower x e)) r;
          left = left;
          within = within;
          settles = q;
          out = λ m t. (t.0, t.1, narrower t.0 t.2, t.3);
          into = λ m t. (t.0, t.1, wider t.0 t.2, t.3);
        }

    block_enters : (items : List ReadItem) (reads : Reads Handle) (body : List Stmt) (inner : Standing) (left : List ℕ) → Matches w base items reads → with_values items st ≡ Some inner → Leaves (map series_of body) inner left → settled left st ≡ mid → Enters w st mid env v base body (with_reads env items reads)
    block_enters items reads body inner left k e l q =
        let t = ready_reads w items reads st inner end.unwritten env v base r e k in
        let same = with_values_same items st inner e in
        let on : (x : ℕ) → has x st.unwritten ≡ true → has x inner.unwritten ≡ true = λ x i. subst (λ z. has x z ≡ true) (sym same) i in
        let back : (x : ℕ) → has x inner.unwritten ≡ true → has x st.unwritten ≡ true = λ x i. subst (λ z. has x z ≡ true) same i in
        let narrower : (x : ℕ) → has x l.end.unwritten ≡ false → has x left ≡ false = λ x i. subst (λ z. has x z ≡ false) l.unwritten i in
        record {
          names = inner;
          end = l.end;
          meets = l.meets;
          ready = ready_inner w inner l.end.unwritten end.unwritten (with_reads env items reads) v base (λ x u i. narrow rest st mid end left q more x (back x u) (narrower x i)) t.ready;
          left = left;
          within = subst (λ z. all_in left z ≡ true) same l.within;
          settles = q;
          out = λ m z. (z.0, back z.0 z.1, narrower z.0 z.2, sym (t.old z.0 (back z.0 z.1)) ∙ z.3);
          into = λ m z. (z.0, on z.0 z.1, subst (λ y. has z.0 y ≡ false) (sym l.unwritten) z.2, t.old z.0 z.1 ∙ z.3);
        }

    call_enters : (g : Func) (dests : List ℕ) (vs ds : List (Value Handle)) (first inner : Env Handle) → MeetsSeries g → all_in dests st.unwritten ≡ true → distinct dests ≡ true → settled (without dests st.unwritten) st ≡ mid → Each (Named base) vs → in_order (map (reference env) dests) ≡ Ok ds → bound_to g.values vs [] ≡ Ok first → bound_to g.dests ds first ≡ Ok inner → Enters w st mid env v base g.body inner
    call_enters g dests vs ds first inner meets within once q known named values targets =
        let left = without dests st.unwritten in
        let d = distinct_parts g.values g.dests meets.header in
        let l = leaves (map series_of g.body) (params g) [] meets.body in
        let gone : (c : ℕ) → has c dests ≡ true → has c left ≡ false = λ c i. not_true (has c left) (λ t. not_both i (has_without c dests st.unwritten t).1) in
        let closes : (c : ℕ) → has c dests ≡ true → has c end.unwritten ≡ false = λ c i. narrow rest st mid end left q more c (all_in_has c dests st.unwritten within i) (gone c i) in
        let k = linked env g.dests dests ds first inner named targets d.second once (λ x y m i j e f. r.apart x y m (all_in_has x dests st.unwritten within i) (closes x i) (all_in_has y dests st.unwritten within j) (closes y j) e f) in
        let none : (x : ℕ) → has x l.end.unwritten ≡ false = λ x. subst (λ z. has x z ≡ false) (sym l.unwritten) refl in
        record {
          names = params g;
          end = l.end;
          meets = l.meets;
          ready = record {
            same = r.same;
            closed = r.closed;
            cells = r.cells;
            row_count = r.row_count;
            sees = r.sees;
            knows = λ x i.
                let y = to_known base x g.values vs [] first known values i in
                (y.0, to_old x g.dests ds first inner targets (d.between x i) ∙ y.1, y.2);
            opens = λ x i e.
                let t = k.to x i in
                let o = r.opens t.0 (all_in_has t.0 dests st.unwritten within t.1) (closes t.0 t.1) in
                let is = ref_is (sym o.1 ∙ t.2.1) in
                (t.2.0, t.2.2, subst (λ n. held base n ≡ None) is o.2, subst (λ n. Has v n) is o.3);
            apart = λ x y m i e j f a b. k.once x y m i j a b;
          };
          left = left;
          within = without_within dests st.unwritten;
          settles = q;
          out = λ m t.
              let o = k.to t.0 t.1 in
              let same : o.2.0 ≡ m = ref_is (sym o.2.2 ∙ t.3) in
              (o.0, all_in_has o.0 dests st.unwritten within o.1, gone o.0 o.1, o.2.1 ∙ ap (λ n. Some (ref n)) same);
          into = λ m t.
              let i : has t.0 dests ≡ true = elim (test_or (has t.0 dests)) [ inl e ↦ e | inr e ↦ absurd (not_both (without_has t.0 dests st.unwritten t.1 e) t.2) ] in
              let o = k.from t.0 i in
              let same : o.2.0 ≡ m = ref_is (sym o.2.1 ∙ t.3) in
              (o.0, o.1, none o.0, o.2.2 ∙ ap (λ n. Some (ref n)) same);
        }

    called_goes : (o : Option Func) (dests : List ℕ) (vs ds : List (Value Handle)) → ((g : Func) → o ≡ Some g → MeetsSeries g) → all_in dests st.unwritten ≡ true → distinct dests ≡ true → settled (without dests st.unwritten) st ≡ mid → Each (Named base) vs → in_order (map (reference env) dests) ≡ Ok ds → goes (call_of o vs ds)
    called_goes None dests vs ds meets within once q known named = stop Kind
    called_goes (Some g) dests vs ds meets within once q known named =
        result_or goes (bound_to g.values vs []) _ stop (λ first e.
        result_or goes (bound_to g.dests ds first) _ stop (λ inner f.
        call_enters g dests vs ds first inner (meets g refl) within once q known named e f))

    act_goes : (y : Stmt-F Stmt) → series_step (opened y) st ≡ Some mid → goes (action_of (listed w) w funcs env base y)
    act_goes (Stmt-F.Let at x e) t =
        let a = only_if_is _ _ mid t in
        let b = and_is (names_known st.known e) (is_new st x) a.0 in
        result_or goes (value_of w env e) _ stop (λ y q.
        (b.1, some_is a.1, where_at (Named base) (value_of w env e) y q (known_at w env st end.unwritten v base r e b.0)))
    act_goes (Stmt-F.New at d) t = let a = only_if_is _ _ mid t in (a.0, some_is a.1)
    act_goes (Stmt-F.Write at d e) t =
        let a = only_if_is _ _ mid t in
        let b = and_is (names_known st.known e) (has d st.unwritten) a.0 in
        result_or goes (value_of w env e) _ stop (λ y q.
        result_or goes (destination env d) _ stop (λ m o.
        (d, b.1, some_is a.1, destination_is env d m o, where_at (Named base) (value_of w env e) y q (known_at w env st end.unwritten v base r e b.0))))
    act_goes (Stmt-F.Read at block items body) t =
        let a = only_if_is _ _ mid t in
        let b = then_is (with_values items st) _ mid a.1 in
        let c = then_is (left_by (map series_of body) b.0) _ mid b.2 in
        result_or goes (in_order (map (read_of (listed w) w env base) items)) _ stop (λ reads q.
        block_enters items reads body b.0 c.0 (reads_match w env r.same base items reads q) b.1 (leaves (map series_of body) b.0 c.0 c.1) (some_is c.2))
    act_goes (Stmt-F.If at e first second) t =
        let a = only_if_is _ _ mid t in
        let b = then_is (left_by (map series_of first) st) _ mid a.1 in
        let c = then_is (left_by (map series_of second) st) _ mid b.2 in
        let d = only_if_is _ _ mid c.2 in
        let both = and_is (all_in b.0 c.0) (all_in c.0 b.0) d.0 in
        let l = leaves (map series_of first) st b.0 b.1 in
        let k = leaves (map series_of second) st c.0 c.1 in
        result_or goes (value_of w env e) _ stop (λ y q.
        result_or goes (as_bool y) _ stop (λ test o.
        elim test as (λ z. goes (Ok (Body (if z then first else second) env))) [
          | true ↦ branch_enters first b.0 b.0 l (own b.0) (own b.0) l.within (some_is d.1)
          | false ↦ branch_enters second b.0 c.0 k both.0 both.1 l.within (some_is d.1)
        ]))
    act_goes (Stmt-F.Par at ls rs) t =
        let b = then_is (left_by (map series_of ls) st) _ mid t in
        let c = then_is (left_by (map series_of rs) st) _ mid b.2 in
        let d = only_if_is _ _ mid c.2 in
        record { one = b.0; two = c.0; first = b.1; second = c.1; apart = d.0; settles = some_is d.1 }
    act_goes (Stmt-F.Call at f values dests) t =
        let a = only_if_is _ _ mid t in
        let b = and_is (every (map (names_known st.known) values) && all_in dests st.unwritten) (distinct dests) a.0 in
        let c = and_is (every (map (names_known st.known) values)) (all_in dests st.unwritten) b.0 in
        result_or goes (in_order (map (value_of w env) values)) _ stop (λ vs q.
        result_or goes (in_order (map (reference env) dests)) _ stop (λ ds o.
        called_goes (func_named f funcs) dests vs ds (checked f) c.1 b.1 (some_is a.1)
        (where_at (Each (Named base)) (in_order (map (value_of w env) values)) vs q (in_order_each (Named base) (map (value_of w env) values) (values_known base w r.cells r.row_count r.same env st.known r.knows values c.0))) o))

    -- what a read block read is seen
    matches_seen : (items : List ReadItem) (rs : Reads Handle) → Matches w base items rs → EachOf (Sees v) rs
    matches_seen [] [] k = tt
    matches_seen [] (x ∷ rs) k = absurd k
    matches_seen (item ∷ items) [] k = absurd k
    matches_seen (item ∷ items) (x ∷ rs) k = (r.sees x.0 x.1 k.0, matches_seen items rs k.1)

    abbrev sights : Result (Action Handle) FaultKind → Type 0
    sights o = Where (λ z. Sights z v) o

    none_seen : (k : FaultKind) → sights (Err k)
    none_seen k = tt

    called_sights : (o : Option Func) (vs ds : List (Value Handle)) → sights (call_of o vs ds)
    called_sights None vs ds = tt
    called_sights (Some g) vs ds = result_or sights (bound_to g.values vs []) _ none_seen (λ first e. result_or sights (bound_to g.dests ds first) _ none_seen (λ inner f. tt))

    act_sights : (y : Stmt-F Stmt) → sights (action_of (listed w) w funcs env base y)
    act_sights (Stmt-F.Let at x e) = result_or sights (value_of w env e) _ none_seen (λ y q. tt)
    act_sights (Stmt-F.New at d) = tt
    act_sights (Stmt-F.Write at d e) = result_or sights (value_of w env e) _ none_seen (λ y q. result_or sights (destination env d) _ none_seen (λ m o. tt))
    act_sights (Stmt-F.Read at block items body) =
        result_or sights (in_order (map (read_of (listed w) w env base) items)) _ none_seen (λ reads q. matches_seen items reads (reads_match w env r.same base items reads q))
    act_sights (Stmt-F.If at e first second) = result_or sights (value_of w env e) _ none_seen (λ y q. result_or sights (as_bool y) _ none_seen (λ test o. tt))
    act_sights (Stmt-F.Par at ls rs) = tt
    act_sights (Stmt-F.Call at f values dests) =
        result_or sights (in_order (map (value_of w env) values)) _ none_seen (λ vs q. result_or sights (in_order (map (reference env) dests)) _ none_seen (λ ds o. called_sights (func_named f funcs) vs ds))

  module _ (s : Stmt) (rest : List Stmt) (env : Env Handle) (v u : ValueView) (l : Looked v u) where
    -- what a statement reads is there on each heap that has the base
    pub readable : (base : Heap) (st end : Standing) → series (s ∷ rest) st ≡ Some end → Ready w st end.unwritten env v base → (heap : Heap) → Wider base heap → Readable w env v heap (out-Stmt s)
    readable base st end m r heap wi = let p = steps s rest st end m in readable_at w env st end.unwritten v base r heap wi (out-Stmt s) p.mid p.first

    pub needs_readable : Needs w (s ∷ rest) env v → (heap : Heap) × Readable w env v heap (out-Stmt s)
    needs_readable n = (n.0, readable n.0 n.1 n.2 n.3 n.4 n.0 (λ m x e. e))

    module _ (a : Action Handle) (asked : (heap : Heap) → Readable w env v heap (out-Stmt s) → action_of (listed w) w funcs env heap (out-Stmt s) ≡ Ok a) where
      pub goes_at : (base : Heap) (st end : Standing) (m : series (s ∷ rest) st ≡ Some end) → Ready w st end.unwritten env v base → Goes w st (steps s rest st end m).mid env u base a
      goes_at base st end m r =
          let p = steps s rest st end m in
          let k = ready_looked w st end.unwritten env v u base l r in
          where_at (Goes w st p.mid env u base) (action_of (listed w) w funcs env base (out-Stmt s)) a (asked base (readable base st end m r base (λ n x e. e)))
          (act_goes rest st p.mid end env u base p.rest k (out-Stmt s) p.first)

      pub needs_act : Needs w (s ∷ rest) env v → NeedsAct w a rest env u
      needs_act n =
          let p = steps s rest n.1 n.2 n.3 in
          (n.0, n.1, p.mid, n.2, p.rest, ready_looked w n.1 n.2.unwritten env v u n.0 l n.4, goes_at n.0 n.1 n.2 n.3 n.4)

      pub sights_act : Needs w (s ∷ rest) env v → Sights a u
      sights_act n =
          let p = steps s rest n.1 n.2 n.3 in
          let k = ready_looked w n.1 n.2.unwritten env v u n.0 l n.4 in
          where_at (λ z. Sights z u) (action_of (listed w) w funcs env n.0 (out-Stmt s)) a (asked n.0 (readable n.0 n.1 n.2 n.3 n.4 n.0 (λ j x e. e)))
          (act_sights rest n.1 p.mid n.2 env u n.0 p.rest k (out-Stmt s))

      pub tells_act : (room : ℕ) (x : ValueView) (e : Ended (Rec Handle)) → TellsAct w room (traced w funcs room) (cut_short w funcs room) a rest env u x e → Tells w (traced w funcs (suc room)) (cut_short w funcs (suc room)) (s ∷ rest) env v x e
      tells_act room x e told base st end m r =
          let p = steps s rest st end m in
          same_ended (traced w funcs (suc room)) (cut_short w funcs (suc room)) (s ∷ rest) st end.unwritten env v x base e
          (lift_told (acts room (traced w funcs room) a) (traced w funcs (suc room)) (cuts room (traced w funcs room) (cut_short w funcs room) a) (cut_short w funcs (suc room)) rest (s ∷ rest) env env v u x base base st st end.unwritten end.unwritten (λ c. c)
          (λ heap wi c last h. run_more w funcs room s rest env heap c last (Ok a) (asked heap (readable base st end m r heap wi)) (h heap wi))
          (λ c f. f)
          (λ c f mv. moved_looked st end.unwritten env v u x base _ l mv)
          (λ z. still_looked st end.unwritten env v u x l z)
          (λ z. z)
          (λ c n k. cut_on_acts same_handle w funcs room s rest env base a c n (λ heap wi. asked heap (readable base st end m r heap wi)) k)
          e (told base st p.mid end p.rest (ready_looked w st end.unwritten env v u base l r) (goes_at base st end m r)))

    pub tells_fault : (room : ℕ) (k : FaultKind) → ((heap : Heap) → Readable w env v heap (out-Stmt s) → action_of (listed w) w funcs env heap (out-Stmt s) ≡ Err k) → Tells w (traced w funcs (suc room)) (cut_short w funcs (suc room)) (s ∷ rest) env v u (Fault E k (line_of (out-Stmt s)))
    tells_fault room k asked base st end m r = (
      record {
        run = λ heap wi. run_more w funcs room s rest env heap E (Stop k (line_of (out-Stmt s))) (Err k) (asked heap (readable base st end m r heap wi)) (refl, refl);
        fresh = λ j i. absurd (none_some i.1);
      },
      λ n x e. sees_looked v u n x l (r.sees n x e),
      λ n x h d s. sees_looked v u n x l s,
    )
