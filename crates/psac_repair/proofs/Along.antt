-- The series rule along a run: what a statement and a read block ask for, over each heap that has what is in scope.
use Rattle.std.proofs.Common.{◌≡◌, ℕ, ◌&&◌, Bool, true, false, if◌then◌else◌, List, [], ◌∷◌, map, Option, Some, None, Result, Ok, Err, refl, ap, sym, ◌∙◌, subst, inl, inr}
use Rattle.psac_ops.specs.declared.plain.Handle.{Handle}
use Rattle.psac_ops.specs.Value.{Value, ref}
use Rattle.psac_ops.specs.Named.{same_handle}
use Rattle.psac_syntax.specs.declared.program.Expr.{Expr}
use Rattle.psac_syntax.specs.declared.program.Stmt.{Stmt, out-Stmt}
use Rattle.psac_syntax.specs.declared.program.Stmt.TheOpen.{Stmt-F}
use Rattle.psac_syntax.specs.declared.program.ReadItem.{ReadItem}
use Rattle.psac_syntax.specs.declared.program.Func.{Func}
use Rattle.psac_model.specs.declared.ends.FaultKind.{FaultKind}
use Rattle.psac_model.specs.declared.ends.FaultKind.TheVariants.{Kind}
use Rattle.psac_model.specs.Names.{Env, bound, bind}
use Rattle.psac_model.specs.Expression.{Setting, value_of, in_order, or_kind}
use Rattle.psac_model.specs.Tree.{Reads}
use Rattle.psac_model.specs.Run.{Action, Body, action_of, read_of, target, as_bool, destination, reference, func_named, bound_to, call_of, with_reads}
use Rattle.psac_model.specs.Series.{has, without, all_in}
use Rattle.psac_laws.specs.Standing.{every, distinct, Standing, is_new, with_value, with_values, settled, names_known, reads_known, series_step, series_of, series, left_by, params, MeetsSeries}
use Rattle.psac_laws.proofs.Places.{none_some, some_is, and_is, not_true, test_or, not_both}
use Rattle.psac_laws.proofs.Rules.{other, new_is, all_in_has, all_in_not, all_in_from, only_if_is, then_is, Leaves, leaves, has_without, without_has, without_within, with_values_same, opened, steps}
use Rattle.psac_laws.proofs.Results.{ok_is, ok_then, or_kind_is, result_or}
use Rattle.psac_laws.proofs.Calls.{distinct_parts}
use Rattle.psac_laws.proofs.Values.{Where, Each, where_at, in_order_each}
use Rattle.psac_traced.specs.Rec.{held_by}
use Rattle.psac_traced.specs.Traced.{listed}
use Rattle.psac_trace.specs.Rights.{Heap, held, Named}
use Rattle.psac_trace.specs.Told.{AreChecked}
use Rattle.psac_trace.proofs.Results.{destination_is, ref_is}
use Rattle.psac_trace.proofs.Bound.{bound_old}
use Rattle.psac_trace.proofs.Valued.{value_known, values_known}
use Rattle.psac_trace.proofs.Called.{to_old, to_known, linked}
use Rattle.psac_trace.proofs.Moves.{Narrow, narrow, Matches}
use Rattle.psac_repair.specs.Scope.{Scope, Inside, Asks, GoesAlong, AllInside, ReadsAlong}
use Rattle.psac_repair.proofs.Fills.{scope_bind, scope_inner}

own : (xs : List ℕ) → all_in xs xs ≡ true
own xs = all_in_from xs xs (λ x k. k)

module _ (w : Setting Handle) where
  known_at : (st : Standing) (left : List ℕ) (env : Env Handle) (base : Heap) → Scope w st left env base → (e : Expr) → names_known st.known e ≡ true → Where (Named base) (value_of w env e)
  known_at st left env base r = value_known base w r.cells r.row_count r.same env st.known r.knows

  read_held : (env : Env Handle) (base : Heap) (item : ReadItem) (r : Handle × Value Handle) → read_of (listed w) w env base item ≡ Ok r → held_by w.same base r.0 ≡ Some r.1
  read_held env base item r e =
      let a = ok_then (value_of w env item.from) _ r e in
      let b = ok_then (target a.0) _ r a.2 in
      let c = ok_then (or_kind (held_by w.same base b.0)) _ r b.2 in
      let q : (b.0, c.0) ≡ r = ok_is c.2 in
      subst (λ (z : Handle × Value Handle). held_by w.same base z.0 ≡ Some z.1) q (or_kind_is (held_by w.same base b.0) c.0 c.1)

  reads_match : (env : Env Handle) → w.same ≡ same_handle → (base : Heap) (items : List ReadItem) (rs : Reads Handle) → in_order (map (read_of (listed w) w env base) items) ≡ Ok rs → Matches w base items rs
  reads_match env same base [] [] e = tt
  reads_match env same base [] (r ∷ rs) e = absurd cc
  reads_match env same base (item ∷ items) rs e =
      let a = ok_then (read_of (listed w) w env base item) _ rs e in
      let b = ok_then (in_order (map (read_of (listed w) w env base) items)) _ rs a.2 in
      let q : a.0 ∷ b.0 ≡ rs = ok_is b.2 in
      subst (Matches w base (item ∷ items)) q (sym (ap (λ (z : Handle → Handle → Bool). held_by z base a.0.0) same) ∙ read_held env base item a.0 a.1, reads_match env same base items b.0 b.1)

  -- what a read block begins with
  record Bound (st inner : Standing) (left : List ℕ) (env here : Env Handle) (base : Heap) : Type 0 where
    pub scope : Scope w inner left here base
    pub old : (x : ℕ) → has x st.unwritten ≡ true → bound x here ≡ bound x env

  scope_reads : (items : List ReadItem) (rs : Reads Handle) (st inner : Standing) (left : List ℕ) (env : Env Handle) (base : Heap) → Scope w st left env base → with_values items st ≡ Some inner → Matches w base items rs → Bound st inner left env (with_reads env items rs) base
  scope_reads [] [] st inner left env base r e k =
      let q : st ≡ inner = some_is e in
      record { scope = subst (λ z. Scope w z left env base) q r; old = λ x i. refl }
  scope_reads (item ∷ items) (p ∷ rs) st inner left env base r e k =
      elim (test_or (is_new st item.bound)) [
        | inl n ↦
            (let more : with_values items (with_value item.bound st) ≡ Some inner = rw n at e in
            let here = scope_bind w st left env base item.bound p.1 r n (r.closed p.0 p.1 k.0) in
            let t = scope_reads items rs (with_value item.bound st) inner left (bind item.bound p.1 env) base here more k.1 in
            record {
              scope = t.scope;
              old = λ x i. t.old x i ∙ bound_old item.bound x p.1 env (other item.bound x st.unwritten (new_is st item.bound n).1 i);
            })
        | inr n ↦ (let bad : None ≡ Some inner = rw n at e in absurd (none_some bad))
      ]
  scope_reads [] (p ∷ rs) st inner left env base r e k = absurd k
  scope_reads (item ∷ items) [] st inner left env base r e k = absurd k

  -- where all that is read is known, the base has it
  all_inside : (st : Standing) (left : List ℕ) (env : Env Handle) (base : Heap) → Scope w st left env base → (items : List ReadItem) → reads_known st.known items ≡ true → AllInside w env base items
  all_inside st left env base r [] t = tt
  all_inside st left env base r (item ∷ items) t =
      let b = and_is (names_known st.known item.from) (reads_known st.known items) t in
      (λ m e. where_at (Named base) (value_of w env item.from) (ref m) e (known_at st left env base r item.from b.0), all_inside st left env base r items b.1)

  pub reads_along : ReadsAlong w
  reads_along s rest st end env heap line number items body m r is =
      let p = steps s rest st end m in
      let t : series_step (opened (Stmt-F.Read line number items body)) st ≡ Some p.mid = subst (λ z. series_step (opened z) st ≡ Some p.mid) is p.first in
      let a = only_if_is (reads_known st.known items) _ p.mid t in
      let b = then_is (with_values items st) _ p.mid a.1 in
      let c = then_is (left_by (map series_of body) b.0) _ p.mid b.2 in
      let l = leaves (map series_of body) b.0 c.0 c.1 in
      let q : settled c.0 st ≡ p.mid = some_is c.2 in
      let same = with_values_same items st b.0 b.1 in
      let on : (x : ℕ) → has x st.unwritten ≡ true → has x b.0.unwritten ≡ true = λ x i. subst (λ z. has x z ≡ true) (sym same) i in
      let back : (x : ℕ) → has x b.0.unwritten ≡ true → has x st.unwritten ≡ true = λ x i. subst (λ z. has x z ≡ true) same i in
      let narrower : (x : ℕ) → has x l.end.unwritten ≡ false → has x c.0 ≡ false = λ x i. subst (λ z. has x z ≡ false) l.unwritten i in
      record {
        mid = p.mid;
        rest_meets = p.rest;
        names = b.0;
        inner_end = l.end;
        meets = l.meets;
        left = c.0;
        within = subst (λ z. all_in c.0 z ≡ true) same l.within;
        settles = q;
        inside = λ base sc. all_inside st end.unwritten env base sc items a.0;
        begins = λ base reads sc e.
            let t = scope_reads items reads st b.0 end.unwritten env base sc b.1 (reads_match env sc.same base items reads e) in
            record {
              scope = scope_inner w b.0 l.end.unwritten end.unwritten (with_reads env items reads) base (λ x u i. narrow rest st p.mid end c.0 q p.rest x (back x u) (narrower x i)) t.scope;
              out = λ n z. (z.0, back z.0 z.1, narrower z.0 z.2, sym (t.old z.0 (back z.0 z.1)) ∙ z.3);
              into = λ n z. (z.0, on z.0 z.1, subst (λ y. has z.0 y ≡ false) (sym l.unwritten) z.2, t.old z.0 z.1 ∙ z.3);
            };
      }

module _ (w : Setting Handle) (funcs : List Func) (checked : AreChecked funcs) where
  module _ (rest : List Stmt) (st mid end : Standing) (env : Env Handle) (heap : Heap) (more : series rest mid ≡ Some end) (r : Scope w st end.unwritten env heap) where
    abbrev asks : Result (Action Handle) FaultKind → Type 0
    asks o = Where (Asks w st mid end.unwritten env) o

    stop : (k : FaultKind) → asks (Err k)
    stop k = tt

    valued : (e : Expr) (y : Value Handle) → value_of w env e ≡ Ok y → names_known st.known e ≡ true → (base : Heap) → Scope w st end.unwritten env base → Named base y
    valued e y q k base sc = where_at (Named base) (value_of w env e) y q (known_at w st end.unwritten env base sc e k)

    branch_inside : (body : List Stmt) (left took : List ℕ) → Leaves (map series_of body) st took → all_in left took ≡ true → all_in took left ≡ true → all_in left st.unwritten ≡ true → settled left st ≡ mid → Inside w st mid end.unwritten env body env
    branch_inside body left took l one two within q =
        let narrower : (x : ℕ) → has x l.end.unwritten ≡ false → has x left ≡ false = λ x e. all_in_not x left took one (subst (λ z. has x z ≡ false) l.unwritten e) in
        let wider : (x : ℕ) → has x left ≡ false → has x l.end.unwritten ≡ false = λ x e. subst (λ z. has x z ≡ false) (sym l.unwritten) (all_in_not x took left two e) in
        record {
          names = st;
          end = l.end;
          meets = l.meets;
          left = left;
          within = within;
          settles = q;
          scope = λ base sc. scope_inner w st l.end.unwritten end.unwritten env base (λ x u e. narrow rest st mid end left q more x u (narrower x e)) sc;
          out = λ m t. (t.0, t.1, narrower t.0 t.2, t.3);
          into = λ m t. (t.0, t.1, wider t.0 t.2, t.3);
        }

    call_inside : (g : Func) (dests : List ℕ) (vs ds : List (Value Handle)) (first inner : Env Handle) → MeetsSeries g → all_in dests st.unwritten ≡ true → distinct dests ≡ true → settled (without dests st.unwritten) st ≡ mid → ((base : Heap) → Scope w st end.unwritten env base → Each (Named base) vs) → in_order (map (reference env) dests) ≡ Ok ds → bound_to g.values vs [] ≡ Ok first → bound_to g.dests ds first ≡ Ok inner → Inside w st mid end.unwritten env g.body inner
    call_inside g dests vs ds first inner meets within once q known named values targets =
        let left = without dests st.unwritten in
        let d = distinct_parts g.values g.dests meets.header in
        let l = leaves (map series_of g.body) (params g) [] meets.body in
        let gone : (c : ℕ) → has c dests ≡ true → has c left ≡ false = λ c i. not_true (has c left) (λ t. not_both i (has_without c dests st.unwritten t).1) in
        let closes : (c : ℕ) → has c dests ≡ true → has c end.unwritten ≡ false = λ c i. narrow rest st mid end left q more c (all_in_has c dests st.unwritten within i) (gone c i) in
        let k = linked env g.dests dests ds first inner named targets d.second once (λ x y m i j e f. r.apart x y m (all_in_has x dests st.unwritten within i) (closes x i) (all_in_has y dests st.unwritten within j) (closes y j) e f) in
        let none : (x : ℕ) → has x l.end.unwritten ≡ false = λ x. subst (λ z. has x z ≡ false) (sym l.unwritten) refl in
        record {
          names = params g;
          end = l.end;
          meets = l.meets;
          left = left;
          within = without_within dests st.unwritten;
          settles = q;
          scope = λ base sc. record {
            same = sc.same;
            closed = sc.closed;
            cells = sc.cells;
            row_count = sc.row_count;
            knows = λ x i.
                let y = to_known base x g.values vs [] first (known base sc) values i in
                (y.0, to_old x g.dests ds first inner targets (d.between x i) ∙ y.1, y.2);
            opens = λ x i e.
                let t = k.to x i in
                let o = sc.opens t.0 (all_in_has t.0 dests st.unwritten within t.1) (closes t.0 t.1) in
                let is = ref_is (sym o.1 ∙ t.2.1) in
                (t.2.0, t.2.2, subst (λ n. held base n ≡ None) is o.2);
            apart = λ x y m i e j f a b. k.once x y m i j a b;
          };
          out = λ m t.
              let o = k.to t.0 t.1 in
              let same : o.2.0 ≡ m = ref_is (sym o.2.2 ∙ t.3) in
              (o.0, all_in_has o.0 dests st.unwritten within o.1, gone o.0 o.1, o.2.1 ∙ ap (λ n. Some (ref n)) same);
          into = λ m t.
              let i : has t.0 dests ≡ true = elim (test_or (has t.0 dests)) [ inl e ↦ e | inr e ↦ absurd (not_both (without_has t.0 dests st.unwritten t.1 e) t.2) ] in
              let o = k.from t.0 i in
              let same : o.2.0 ≡ m = ref_is (sym o.2.1 ∙ t.3) in
              (o.0, o.1, none o.0, o.2.2 ∙ ap (λ n. Some (ref n)) same);
        }

    called_asks : (o : Option Func) (dests : List ℕ) (vs ds : List (Value Handle)) → ((g : Func) → o ≡ Some g → MeetsSeries g) → all_in dests st.unwritten ≡ true → distinct dests ≡ true → settled (without dests st.unwritten) st ≡ mid → ((base : Heap) → Scope w st end.unwritten env base → Each (Named base) vs) → in_order (map (reference env) dests) ≡ Ok ds → asks (call_of o vs ds)
    called_asks None dests vs ds meets within once q known named = stop Kind
    called_asks (Some g) dests vs ds meets within once q known named =
        result_or asks (bound_to g.values vs []) _ stop (λ first e.
        result_or asks (bound_to g.dests ds first) _ stop (λ inner f.
        call_inside g dests vs ds first inner (meets g refl) within once q known named e f))

    act_asks : (y : Stmt-F Stmt) → series_step (opened y) st ≡ Some mid → asks (action_of (listed w) w funcs env heap y)
    act_asks (Stmt-F.Let at x e) t =
        let a = only_if_is _ _ mid t in
        let b = and_is (names_known st.known e) (is_new st x) a.0 in
        result_or asks (value_of w env e) _ stop (λ y q. (b.1, some_is a.1, valued e y q b.0))
    act_asks (Stmt-F.New at d) t = let a = only_if_is _ _ mid t in (a.0, some_is a.1)
    act_asks (Stmt-F.Write at d e) t =
        let a = only_if_is _ _ mid t in
        let b = and_is (names_known st.known e) (has d st.unwritten) a.0 in
        result_or asks (value_of w env e) _ stop (λ y q.
        result_or asks (destination env d) _ stop (λ m o.
        (d, b.1, some_is a.1, destination_is env d m o, valued e y q b.0)))
    act_asks (Stmt-F.Read at block items body) t =
        result_or asks (in_order (map (read_of (listed w) w env heap) items)) _ stop (λ reads q. tt)
    act_asks (Stmt-F.If at e first second) t =
        let a = only_if_is _ _ mid t in
        let b = then_is (left_by (map series_of first) st) _ mid a.1 in
        let c = then_is (left_by (map series_of second) st) _ mid b.2 in
        let d = only_if_is _ _ mid c.2 in
        let both = and_is (all_in b.0 c.0) (all_in c.0 b.0) d.0 in
        let l = leaves (map series_of first) st b.0 b.1 in
        let k = leaves (map series_of second) st c.0 c.1 in
        result_or asks (value_of w env e) _ stop (λ y q.
        result_or asks (as_bool y) _ stop (λ test o.
        elim test as (λ z. asks (Ok (Body (if z then first else second) env))) [
          | true ↦ branch_inside first b.0 b.0 l (own b.0) (own b.0) l.within (some_is d.1)
          | false ↦ branch_inside second b.0 c.0 k both.0 both.1 l.within (some_is d.1)
        ]))
    act_asks (Stmt-F.Par at ls rs) t =
        let b = then_is (left_by (map series_of ls) st) _ mid t in
        let c = then_is (left_by (map series_of rs) st) _ mid b.2 in
        let d = only_if_is _ _ mid c.2 in
        record { one = b.0; two = c.0; first = b.1; second = c.1; apart = d.0; settles = some_is d.1 }
    act_asks (Stmt-F.Call at f values dests) t =
        let a = only_if_is _ _ mid t in
        let b = and_is (every (map (names_known st.known) values) && all_in dests st.unwritten) (distinct dests) a.0 in
        let c = and_is (every (map (names_known st.known) values)) (all_in dests st.unwritten) b.0 in
        result_or asks (in_order (map (value_of w env) values)) _ stop (λ vs q.
        result_or asks (in_order (map (reference env) dests)) _ stop (λ ds o.
        called_asks (func_named f funcs) dests vs ds (checked f) c.1 b.1 (some_is a.1)
        (λ base sc. where_at (Each (Named base)) (in_order (map (value_of w env) values)) vs q (in_order_each (Named base) (map (value_of w env) values) (values_known base w sc.cells sc.row_count sc.same env st.known sc.knows values c.0))) o))

  pub goes_along : GoesAlong w funcs
  goes_along s rest st end env heap a m r e =
      let p = steps s rest st end m in
      record {
        mid = p.mid;
        rest_meets = p.rest;
        asks = where_at (Asks w st p.mid end.unwritten env) (action_of (listed w) w funcs env heap (out-Stmt s)) a e
            (act_asks rest st p.mid end env heap p.rest r (out-Stmt s) p.first);
      }
