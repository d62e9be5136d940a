-- What a run makes it writes too, where its statements meet the series rule.
use Rattle.std.proofs.Common.{◌≡◌, ◌==◌, ℕ, suc, zero, true, false, if◌then◌else◌, not, List, [], ◌∷◌, ◌++◌, map, ◌⊎◌, Option, Some, None, Result, Ok, Err, refl, ap, sym, ◌∙◌, subst, inl, inr}
use Rattle.psac_ops.specs.declared.plain.Handle.{Handle}
use Rattle.psac_ops.specs.Value.{Value, ref}
use Rattle.psac_syntax.specs.declared.program.Stmt.{Stmt, out-Stmt}
use Rattle.psac_syntax.specs.declared.program.Stmt.TheOpen.{Stmt-F}
use Rattle.psac_syntax.specs.declared.program.ReadItem.{ReadItem}
use Rattle.psac_syntax.specs.declared.program.Func.{Func}
use Rattle.psac_model.specs.declared.ends.End.{End}
use Rattle.psac_model.specs.declared.ends.End.TheVariants.{Done, Stop}
use Rattle.psac_model.specs.declared.ends.FaultKind.{FaultKind}
use Rattle.psac_model.specs.declared.ends.FaultKind.TheVariants.{Kind}
use Rattle.psac_model.specs.Names.{Env, bound, bind}
use Rattle.psac_model.specs.Expression.{Setting, value_of, in_order}
use Rattle.psac_model.specs.Tree.{Reads}
use Rattle.psac_model.specs.Run.{Action, Bind, Make, Put, Body, Block, Sides, action_of, read_of, as_bool, destination, reference, func_named, bound_to, call_of, with_reads, first_stop, line_of}
use Rattle.psac_model.specs.Series.{has, without, all_in}
use Rattle.psac_laws.specs.Standing.{distinct, in_both, Standing, is_new, with_value, with_dest, with_values, settled, names_known, reads_known, series_step, series_of, series, left_by, params, MeetsSeries}
use Rattle.psac_laws.proofs.Places.{none_some, some_is, nat_is, nat_same, and_is, not_true, test_or, not_both}
use Rattle.psac_laws.proofs.Rules.{or_is, or_left, or_right, not_is, other, new_is, all_in_has, all_in_not, all_in_from, only_if_is, then_is, Leaves, leaves, without_has, both_has, with_values_same, IsSettled, settles, stays, opened, steps}
use Rattle.psac_laws.proofs.Results.{ok_is, ok_then, result_or}
use Rattle.psac_laws.proofs.Calls.{distinct_parts}
use Rattle.psac_laws.proofs.Values.{Where}
use Rattle.psac_traced.specs.Rec.{Rec, A, W, S, P, R, writes}
use Rattle.psac_traced.specs.Places.{Makes}
use Rattle.psac_traced.specs.Traced.{Traces as Tracing, listed, goes_on, acts, acts_or_stops, traced}
use Rattle.psac_traced.proofs.Again.{not_done, first_left}
use Rattle.psac_trace.specs.Rights.{Heap, In, Target}
use Rattle.psac_trace.specs.Running.{Parts}
use Rattle.psac_trace.specs.Told.{AreChecked}
use Rattle.psac_trace.proofs.Results.{destination_is, ref_is}
use Rattle.psac_trace.proofs.Bound.{bound_old, bound_new}
use Rattle.psac_trace.proofs.Called.{to_old}
use Rattle.psac_trace.proofs.Heaps.{in_front, in_back, at_one}

-- no destination is left unwritten but those that stood so before
abbrev Shut : Standing → Standing → Type 0
Shut st end = (x : ℕ) → has x end.unwritten ≡ true → has x st.unwritten ≡ true

-- an inner body, which writes the outer destinations that its statement is to write, and all of its own
record Inner (st mid : Standing) (env : Env Handle) (body : List Stmt) (inner : Env Handle) : Type 0 where
  names : Standing
  end : Standing
  meets : series body names ≡ Some end
  shut : Shut names end
  left : List ℕ
  settles : settled left st ≡ mid
  into : (m : Handle) → Target st left env m → Target names end.unwritten inner m

-- what a statement that meets the rule asks for
abbrev Asks : Standing → Standing → Env Handle → Action Handle → Type 0
Asks st mid env (Bind x y) = (is_new st x ≡ true) × (with_value x st ≡ mid)
Asks st mid env (Make d) = (is_new st d ≡ true) × (with_dest d st ≡ mid)
Asks st mid env (Put m y) =
    (d : ℕ) × (settled (without (d ∷ []) st.unwritten) st ≡ mid) × (bound d env ≡ Some (ref m))
Asks st mid env (Body body inner) = Inner st mid env body inner
Asks st mid env (Block block reads body inner) = Inner st mid env body inner
Asks st mid env (Sides left right) = Parts st mid left right

leaves_shut : (body : List Stmt) (st : Standing) (left : List ℕ) (l : Leaves (map series_of body) st left) → Shut st l.end
leaves_shut body st left l x i = all_in_has x left st.unwritten l.within (subst (λ z. has x z ≡ true) l.unwritten i)

-- what isn't bound by reads is bound as before
reads_old : (items : List ReadItem) (rs : Reads Handle) (st inner : Standing) (env : Env Handle) → with_values items st ≡ Some inner
    → (x : ℕ) → has x st.unwritten ≡ true → bound x (with_reads env items rs) ≡ bound x env
reads_old [] rs st inner env e x i = refl
reads_old (item ∷ items) [] st inner env e x i = refl
reads_old (item ∷ items) (r ∷ rs) st inner env e x i =
    elim (test_or (is_new st item.bound)) [
      | inl n ↦
          (let more : with_values items (with_value item.bound st) ≡ Some inner = rw n at e in
          reads_old items rs (with_value item.bound st) inner (bind item.bound r.1 env) more x i
          ∙ bound_old item.bound x r.1 env (other item.bound x st.unwritten (new_is st item.bound n).1 i))
      | inr n ↦ (let bad : None ≡ Some inner = rw n at e in absurd (none_some bad))
    ]

-- a destination of a call, and the parameter that stands for it
record Stands (env inner : Env Handle) (ps : List ℕ) (d : ℕ) : Type 0 where
  param : ℕ
  among : has param ps ≡ true
  of : Handle
  outside : bound d env ≡ Some (ref of)
  inside : bound param inner ≡ Some (ref of)

stands : (env : Env Handle) (ps dests : List ℕ) (ds : List (Value Handle)) (base inner : Env Handle)
    → in_order (map (reference env) dests) ≡ Ok ds → bound_to ps ds base ≡ Ok inner → distinct ps ≡ true
    → (d : ℕ) → has d dests ≡ true → Stands env inner ps d
stands env ps [] ds base inner o h p d i = absurd cc
stands env [] (c ∷ dests) ds base inner o h p d i =
    let a = ok_then (reference env c) _ ds o in
    let b = ok_then (in_order (map (reference env) dests)) _ ds a.2 in
    absurd (let k : bound_to [] (a.0 ∷ b.0) base ≡ Ok inner = subst (λ z. bound_to [] z base ≡ Ok inner) (sym (ok_is b.2)) h in cc)
stands env (x ∷ ps) (c ∷ dests) ds base inner o h p d i =
    let a = ok_then (reference env c) _ ds o in
    let b = ok_then (in_order (map (reference env) dests)) _ ds a.2 in
    let k : bound_to ps b.0 (bind x a.0 base) ≡ Ok inner = subst (λ z. bound_to (x ∷ ps) z base ≡ Ok inner) (sym (ok_is b.2)) h in
    let g = ok_then (destination env c) _ a.0 a.1 in
    let q = and_is (not (has x ps)) (distinct ps) p in
    elim (or_is (c == d) (has d dests) i) [
      | inl t ↦ record {
        param = x;
        among = or_left (x == x) (has x ps) (nat_same x);
        of = g.0;
        outside = subst (λ n. bound n env ≡ Some (ref g.0)) (nat_is c d t) (destination_is env c g.0 g.1);
        inside = to_old x ps b.0 (bind x a.0 base) inner k (not_is (has x ps) q.0) ∙ bound_new x x a.0 base (nat_same x)
            ∙ ap Some (sym (ok_is g.2));
      }
      | inr t ↦
          (let r = stands env ps dests b.0 (bind x a.0 base) inner b.1 k q.1 d t in
          record {
            param = r.param;
            among = or_right (x == r.param) (has r.param ps) r.among;
            of = r.of;
            outside = r.outside;
            inside = r.inside;
          })
    ]

module _ (w : Setting Handle) (funcs : List Func) (checked : AreChecked funcs) where
  module _ (st mid : Standing) (env : Env Handle) (heap : Heap) where
    abbrev asks : Result (Action Handle) FaultKind → Type 0
    asks o = Where (Asks st mid env) o

    stop : (k : FaultKind) → asks (Err k)
    stop k = tt

    branch : (body : List Stmt) (left took : List ℕ) → Leaves (map series_of body) st took → all_in took left ≡ true
        → settled left st ≡ mid → Inner st mid env body env
    branch body left took l two q =
        record {
          names = st;
          end = l.end;
          meets = l.meets;
          shut = leaves_shut body st took l;
          left = left;
          settles = q;
          into = λ m t. (t.0, t.1, subst (λ z. has t.0 z ≡ false) (sym l.unwritten) (all_in_not t.0 took left two t.2), t.3);
        }

    called : (g : Func) (dests : List ℕ) (vs ds : List (Value Handle)) (first inner : Env Handle) → MeetsSeries g
        → settled (without dests st.unwritten) st ≡ mid → in_order (map (reference env) dests) ≡ Ok ds
        → bound_to g.dests ds first ≡ Ok inner → Inner st mid env g.body inner
    called g dests vs ds first inner meets q named targets =
        let d = distinct_parts g.values g.dests meets.header in
        let l = leaves (map series_of g.body) (params g) [] meets.body in
        record {
          names = params g;
          end = l.end;
          meets = l.meets;
          shut = leaves_shut g.body (params g) [] l;
          left = without dests st.unwritten;
          settles = q;
          into = λ m t.
              let i : has t.0 dests ≡ true =
              elim (test_or (has t.0 dests)) [ inl e ↦ e | inr e ↦ absurd (not_both (without_has t.0 dests st.unwritten t.1 e) t.2) ] in
              let o = stands env g.dests dests ds first inner named targets d.second t.0 i in
              let same : o.of ≡ m = ref_is (sym o.outside ∙ t.3) in
              (o.param, o.among, subst (λ z. has o.param z ≡ false) (sym l.unwritten) refl, o.inside ∙ ap (λ n. Some (ref n)) same);
        }

    called_asks : (o : Option Func) (dests : List ℕ) (vs ds : List (Value Handle)) → ((g : Func) → o ≡ Some g → MeetsSeries g)
        → settled (without dests st.unwritten) st ≡ mid → in_order (map (reference env) dests) ≡ Ok ds → asks (call_of o vs ds)
    called_asks None dests vs ds meets q named = stop Kind
    called_asks (Some g) dests vs ds meets q named =
        result_or asks (bound_to g.values vs []) _ stop (λ first e.
        result_or asks (bound_to g.dests ds first) _ stop (λ inner f. called g dests vs ds first inner (meets g refl) q named f))

    act_asks : (y : Stmt-F Stmt) → series_step (opened y) st ≡ Some mid → asks (action_of (listed w) w funcs env heap y)
    act_asks (Stmt-F.Let at x e) t =
        let a = only_if_is _ _ mid t in
        let b = and_is (names_known st.known e) (is_new st x) a.0 in
        result_or asks (value_of w env e) _ stop (λ y q. (b.1, some_is a.1))
    act_asks (Stmt-F.New at d) t = let a = only_if_is _ _ mid t in (a.0, some_is a.1)
    act_asks (Stmt-F.Write at d e) t =
        let a = only_if_is _ _ mid t in
        result_or asks (value_of w env e) _ stop (λ y q.
        result_or asks (destination env d) _ stop (λ m o. (d, some_is a.1, destination_is env d m o)))
    act_asks (Stmt-F.Read at block items body) t =
        let a = only_if_is (reads_known st.known items) _ mid t in
        let b = then_is (with_values items st) _ mid a.1 in
        let c = then_is (left_by (map series_of body) b.0) _ mid b.2 in
        let l = leaves (map series_of body) b.0 c.0 c.1 in
        let same = with_values_same items st b.0 b.1 in
        result_or asks (in_order (map (read_of (listed w) w env heap) items)) _ stop (λ reads q. record {
          names = b.0;
          end = l.end;
          meets = l.meets;
          shut = leaves_shut body b.0 c.0 l;
          left = c.0;
          settles = some_is c.2;
          into = λ m z. (
            z.0,
            subst (λ y. has z.0 y ≡ true) (sym same) z.1,
            subst (λ y. has z.0 y ≡ false) (sym l.unwritten) z.2,
            reads_old items reads st b.0 env b.1 z.0 z.1 ∙ z.3,
          );
        })
    act_asks (Stmt-F.If at e first second) t =
        let a = only_if_is _ _ mid t in
        let b = then_is (left_by (map series_of first) st) _ mid a.1 in
        let c = then_is (left_by (map series_of second) st) _ mid b.2 in
        let d = only_if_is _ _ mid c.2 in
        let both = and_is (all_in b.0 c.0) (all_in c.0 b.0) d.0 in
        let l = leaves (map series_of first) st b.0 b.1 in
        let k = leaves (map series_of second) st c.0 c.1 in
        result_or asks (value_of w env e) _ stop (λ y q.
        result_or asks (as_bool y) _ stop (λ test o.
        elim test as (λ z. asks (Ok (Body (if z then first else second) env))) [
          | true ↦ branch first b.0 b.0 l (own b.0) (some_is d.1)
          | false ↦ branch second b.0 c.0 k both.1 (some_is d.1)
        ]))
      where
        own : (xs : List ℕ) → all_in xs xs ≡ true
        own xs = all_in_from xs xs (λ x k. k)
    act_asks (Stmt-F.Par at ls rs) t =
        let b = then_is (left_by (map series_of ls) st) _ mid t in
        let c = then_is (left_by (map series_of rs) st) _ mid b.2 in
        let d = only_if_is _ _ mid c.2 in
        record { one = b.0; two = c.0; first = b.1; second = c.1; apart = d.0; settles = some_is d.1 }
    act_asks (Stmt-F.Call at f values dests) t =
        let a = only_if_is _ _ mid t in
        result_or asks (in_order (map (value_of w env) values)) _ stop (λ vs q.
        result_or asks (in_order (map (reference env) dests)) _ stop (λ ds o.
        called_asks (func_named f funcs) dests vs ds (checked f) (some_is a.1) o))

  -- what is to be written is, and what is made is
  record Sound (deep : Tracing Handle) : Type 0 where
    fills : (body : List Stmt) (env : Env Handle) (heap : Heap) (r : Rec Handle) (st end : Standing) → deep body env heap r Done
        → series body st ≡ Some end → (m : Handle) → Target st end.unwritten env m → In (writes r) m
    makes : (body : List Stmt) (env : Env Handle) (heap : Heap) (r : Rec Handle) (st end : Standing) → deep body env heap r Done
        → series body st ≡ Some end → Shut st end → (m : Handle) → Makes r m → In (writes r) m

  module _ (room : ℕ) (deep : Tracing Handle) (sound : Sound deep) where
    done_on : (e : End) (rest : List Stmt) (env : Env Handle) (h : Heap) (r : Rec Handle) → goes_on e deep rest env h r Done
        → (e ≡ Done) × deep rest env h r Done
    done_on Done rest env h r k = (refl, k)
    done_on (Stop why line) rest env h r k = not_done why line k.1

    module _ (rest : List Stmt) (env : Env Handle) (heap : Heap) (st mid end : Standing) (more : series rest mid ≡ Some end) where
      -- a destination that a part left is to be written by the rest
      still : (left : List ℕ) → settled left st ≡ mid → (m : Handle) (t : Target st end.unwritten env m) → has t.0 left ≡ true
          → Target mid end.unwritten env m
      still left q m t i = subst (λ (z : Standing). Target z end.unwritten env m) q (t.0, i, t.2, t.3)

      shut_on : (left : List ℕ) → settled left st ≡ mid → Shut st end → Shut mid end
      shut_on left q shut x i =
          elim (test_or (has x left)) [
            | inl k ↦ subst (λ (z : Standing). has x z.unwritten ≡ true) q k
            | inr k ↦ absurd (not_both i (stays x rest mid end more (subst (IsSettled x) q (settles x left st (shut x i) k))).1)
          ]

      -- a new name
      bound_on : (x y : ℕ) (v : Value Handle) → is_new st x ≡ true → has y st.unwritten ≡ true → bound y (bind x v env) ≡ bound y env
      bound_on x y v new i = bound_old x y v env (other x y st.unwritten (new_is st x new).1 i)

      part_fills : (body : List Stmt) (inner : Env Handle) → Inner st mid env body inner → (b r : Rec Handle) (e : End)
          → deep body inner heap b e → goes_on e deep rest env (writes b ++ heap) r Done
          → (m : Handle) → Target st end.unwritten env m → In (writes r ++ writes b) m
      part_fills body inner a b r e t u m g =
          let d = done_on e rest env (writes b ++ heap) r u in
          elim (test_or (has g.0 a.left)) [
            | inl i ↦ in_front (writes r) (writes b) m
                (sound.fills rest env (writes b ++ heap) r mid end d.1 more m (still a.left a.settles m g i))
            | inr i ↦ in_back (writes r) (writes b) m
                (sound.fills body inner heap b a.names a.end (subst (λ z. deep body inner heap b z) d.0 t) a.meets m
                (a.into m (g.0, g.1, i, g.3)))
          ]

      part_makes : (body : List Stmt) (inner : Env Handle) → Inner st mid env body inner → (b r : Rec Handle) (e : End)
          → deep body inner heap b e → goes_on e deep rest env (writes b ++ heap) r Done → Shut st end
          → (m : Handle) → Makes b m ⊎ Makes r m → In (writes r ++ writes b) m
      part_makes body inner a b r e t u shut m (inl i) =
          let d = done_on e rest env (writes b ++ heap) r u in
          in_back (writes r) (writes b) m
          (sound.makes body inner heap b a.names a.end (subst (λ z. deep body inner heap b z) d.0 t) a.meets a.shut m i)
      part_makes body inner a b r e t u shut m (inr i) =
          let d = done_on e rest env (writes b ++ heap) r u in
          in_front (writes r) (writes b) m
          (sound.makes rest env (writes b ++ heap) r mid end d.1 more (shut_on a.left a.settles shut) m i)

      act_fills : (a : Action Handle) → Asks st mid env a → (r : Rec Handle) → acts room deep a rest env heap r Done
          → (m : Handle) → Target st end.unwritten env m → In (writes r) m
      act_fills (Bind x v) a r t m g =
          sound.fills rest (bind x v env) heap r mid end t more m
          (subst (λ (z : Standing). Target z end.unwritten (bind x v env) m) a.1 (g.0, g.1, g.2, bound_on x g.0 v a.0 g.1 ∙ g.3))
      act_fills (Make d) a (A k r) t m g =
          sound.fills rest (bind d (ref k) env) heap r mid end t more m
          (subst (λ (z : Standing). Target z end.unwritten (bind d (ref k) env) m) a.1
          (g.0, or_right (d == g.0) (has g.0 st.unwritten) g.1, g.2, bound_on d g.0 (ref k) a.0 g.1 ∙ g.3))
      act_fills (Put n v) a (W l u r) t m g =
          elim (test_or (a.0 == g.0)) [
            | inl q ↦
                (let is : n ≡ m = ref_is (sym a.2 ∙ ap (λ z. bound z env) (nat_is a.0 g.0 q) ∙ g.3) in
                in_back (writes r) ((l, u) ∷ []) m (subst (In ((l, u) ∷ [])) (sym t.0 ∙ is) (u, at_one l u)))
            | inr q ↦
                (let off : has g.0 (a.0 ∷ []) ≡ false = rw q refl in
                in_front (writes r) ((l, u) ∷ []) m
                (sound.fills rest env ((l, u) ∷ heap) r mid end t.2 more m
                (still (without (a.0 ∷ []) st.unwritten) a.1 m g (without_has g.0 (a.0 ∷ []) st.unwritten g.1 off))))
          ]
      act_fills (Body body inner) a (S b r) t m g = part_fills body inner a b r t.0 t.1 t.2 m g
      act_fills (Block block reads body inner) a (S (R level c f seen b) r) t m g =
          part_fills body inner a b r t.4.0 t.4.1 t.4.2 m g
      act_fills (Sides ls rs) a (S (P l k) r) t m g =
          let d = done_on (first_stop t.0 t.1) rest env (writes k ++ (writes l ++ heap)) r t.4 in
          let ends = first_left t.0 t.1 d.0 in
          let one = leaves (map series_of ls) st a.one a.first in
          let two = leaves (map series_of rs) st a.two a.second in
          elim (test_or (has g.0 a.one)) [
            | inl i ↦
                elim (test_or (has g.0 a.two)) [
                  | inl j ↦ in_front (writes r) (writes k ++ writes l) m
                      (sound.fills rest env (writes k ++ (writes l ++ heap)) r mid end d.1 more m
                      (still (in_both a.one a.two) a.settles m g (both_has g.0 a.one a.two i j)))
                  | inr j ↦ in_back (writes r) (writes k ++ writes l) m
                      (in_front (writes k) (writes l) m
                      (sound.fills rs env (writes l ++ heap) k st two.end (subst (λ z. deep rs env (writes l ++ heap) k z) ends.1 t.3)
                      two.meets m
                      (g.0, g.1, subst (λ z. has g.0 z ≡ false) (sym two.unwritten) j, g.3)))
                ]
            | inr i ↦ in_back (writes r) (writes k ++ writes l) m
                (in_back (writes k) (writes l) m
                (sound.fills ls env heap l st one.end (subst (λ z. deep ls env heap l z) ends.0 t.2) one.meets m
                (g.0, g.1, subst (λ z. has g.0 z ≡ false) (sym one.unwritten) i, g.3)))
          ]
      act_fills _ a _ t m g = absurd t

      act_makes : (a : Action Handle) → Asks st mid env a → (r : Rec Handle) → acts room deep a rest env heap r Done → Shut st end
          → (m : Handle) → Makes r m → In (writes r) m
      act_makes (Bind x v) a r t shut m i =
          sound.makes rest (bind x v env) heap r mid end t more (subst (λ (z : Standing). Shut z end) a.1 shut) m i
      act_makes (Make d) a (A k r) t shut m (inl i) =
          let gone : has d end.unwritten ≡ false =
          not_true (has d end.unwritten) (λ j. not_both (shut d j) (new_is st d a.0).1) in
          sound.fills rest (bind d (ref k) env) heap r mid end t more m
          (subst (λ (z : Standing). Target z end.unwritten (bind d (ref k) env) m) a.1
          (d, or_left (d == d) (has d st.unwritten) (nat_same d), gone, bound_new d d (ref k) env (nat_same d) ∙ ap (λ z. Some (ref z)) i))
      act_makes (Make d) a (A k r) t shut m (inr i) =
          sound.makes rest (bind d (ref k) env) heap r mid end t more
          (subst (λ (z : Standing). Shut z end) a.1 (λ x j. or_right (d == x) (has x st.unwritten) (shut x j))) m i
      act_makes (Put n v) a (W l u r) t shut m i =
          in_front (writes r) ((l, u) ∷ []) m
          (sound.makes rest env ((l, u) ∷ heap) r mid end t.2 more (shut_on (without (a.0 ∷ []) st.unwritten) a.1 shut) m i)
      act_makes (Body body inner) a (S b r) t shut m i = part_makes body inner a b r t.0 t.1 t.2 shut m i
      act_makes (Block block reads body inner) a (S (R level c f seen b) r) t shut m i =
          part_makes body inner a b r t.4.0 t.4.1 t.4.2 shut m i
      act_makes (Sides ls rs) a (S (P l k) r) t shut m (inl (inl i)) =
          let d = done_on (first_stop t.0 t.1) rest env (writes k ++ (writes l ++ heap)) r t.4 in
          let ends = first_left t.0 t.1 d.0 in
          let one = leaves (map series_of ls) st a.one a.first in
          in_back (writes r) (writes k ++ writes l) m
          (in_back (writes k) (writes l) m
          (sound.makes ls env heap l st one.end (subst (λ z. deep ls env heap l z) ends.0 t.2) one.meets
          (leaves_shut ls st a.one one) m i))
      act_makes (Sides ls rs) a (S (P l k) r) t shut m (inl (inr i)) =
          let d = done_on (first_stop t.0 t.1) rest env (writes k ++ (writes l ++ heap)) r t.4 in
          let ends = first_left t.0 t.1 d.0 in
          let two = leaves (map series_of rs) st a.two a.second in
          in_back (writes r) (writes k ++ writes l) m
          (in_front (writes k) (writes l) m
          (sound.makes rs env (writes l ++ heap) k st two.end (subst (λ z. deep rs env (writes l ++ heap) k z) ends.1 t.3) two.meets
          (leaves_shut rs st a.two two) m i))
      act_makes (Sides ls rs) a (S (P l k) r) t shut m (inr i) =
          let d = done_on (first_stop t.0 t.1) rest env (writes k ++ (writes l ++ heap)) r t.4 in
          in_front (writes r) (writes k ++ writes l) m
          (sound.makes rest env (writes k ++ (writes l ++ heap)) r mid end d.1 more (shut_on (in_both a.one a.two) a.settles shut) m i)
      act_makes _ a _ t shut m i = absurd t

      step_fills : (o : Result (Action Handle) FaultKind) (line : ℕ) → Where (Asks st mid env) o → (r : Rec Handle)
          → acts_or_stops room deep o line rest env heap r Done → (m : Handle) → Target st end.unwritten env m → In (writes r) m
      step_fills (Ok a) line asked r t m g = act_fills a asked r t m g
      step_fills (Err k) line asked r t m g = not_done k line t.1

      step_makes : (o : Result (Action Handle) FaultKind) (line : ℕ) → Where (Asks st mid env) o → (r : Rec Handle)
          → acts_or_stops room deep o line rest env heap r Done → Shut st end → (m : Handle) → Makes r m → In (writes r) m
      step_makes (Ok a) line asked r t shut m i = act_makes a asked r t shut m i
      step_makes (Err k) line asked r t shut m i = not_done k line t.1

  none_fills : (st end : Standing) (env : Env Handle) (r : Rec Handle) → series [] st ≡ Some end → (m : Handle)
      → Target st end.unwritten env m → In (writes r) m
  none_fills st end env r h m g = absurd (not_both (subst (λ (z : Standing). has g.0 z.unwritten ≡ true) (some_is h) g.1) g.2)

  -- where no statement may go deeper
  flat_fills : (body : List Stmt) (env : Env Handle) (heap : Heap) (r : Rec Handle) (st end : Standing)
      → traced w funcs zero body env heap r Done → series body st ≡ Some end → (m : Handle) → Target st end.unwritten env m
      → In (writes r) m
  unfolding traced
  flat_fills [] env heap r st end t h m g = none_fills st end env r h m g
  flat_fills (s ∷ rest) env heap r st end t h m g = not_done _ _ t.1

  flat_makes : (body : List Stmt) (env : Env Handle) (heap : Heap) (r : Rec Handle) → traced w funcs zero body env heap r Done
      → (m : Handle) → Makes r m → In (writes r) m
  unfolding traced
  flat_makes [] env heap r t m i = absurd (subst (λ z. Makes z m) t.0 i)
  flat_makes (s ∷ rest) env heap r t m i = not_done _ _ t.1

  module _ (room : ℕ) (sound : Sound (traced w funcs room)) where
    deep_fills : (body : List Stmt) (env : Env Handle) (heap : Heap) (r : Rec Handle) (st end : Standing)
        → traced w funcs (suc room) body env heap r Done → series body st ≡ Some end → (m : Handle) → Target st end.unwritten env m
        → In (writes r) m
    unfolding traced
    deep_fills [] env heap r st end t h m g = none_fills st end env r h m g
    deep_fills (s ∷ rest) env heap r st end t h m g =
        let p = steps s rest st end h in
        step_fills room (traced w funcs room) sound rest env heap st p.mid end p.rest
        (action_of (listed w) w funcs env heap (out-Stmt s)) (line_of (out-Stmt s)) (act_asks st p.mid env heap (out-Stmt s) p.first)
        r t m g

    deep_makes : (body : List Stmt) (env : Env Handle) (heap : Heap) (r : Rec Handle) (st end : Standing)
        → traced w funcs (suc room) body env heap r Done → series body st ≡ Some end → Shut st end → (m : Handle) → Makes r m
        → In (writes r) m
    unfolding traced
    deep_makes [] env heap r st end t h shut m i = absurd (subst (λ z. Makes z m) t.0 i)
    deep_makes (s ∷ rest) env heap r st end t h shut m i =
        let p = steps s rest st end h in
        step_makes room (traced w funcs room) sound rest env heap st p.mid end p.rest
        (action_of (listed w) w funcs env heap (out-Stmt s)) (line_of (out-Stmt s)) (act_asks st p.mid env heap (out-Stmt s) p.first)
        r t shut m i

  sound_traced : (room : ℕ) → Sound (traced w funcs room)
  sound_traced zero =
      record {
        fills = flat_fills;
        makes = λ body env heap r st end t h shut m i. flat_makes body env heap r t m i;
      }
  sound_traced (suc room) =
      record { fills = deep_fills room (sound_traced room); makes = deep_makes room (sound_traced room) }

  -- all that a body made it wrote, where it leaves none of its own unwritten
  pub made_written : (room : ℕ) (body : List Stmt) (env : Env Handle) (heap : Heap) (r : Rec Handle) (st : Standing) (left : List ℕ)
      → left_by (map series_of body) st ≡ Some left → traced w funcs room body env heap r Done
      → (m : Handle) → Makes r m → In (writes r) m
  made_written room body env heap r st left h t =
      let l = leaves (map series_of body) st left h in
      (sound_traced room).makes body env heap r st l.end t l.meets (leaves_shut body st left l)

  -- and it wrote each destination that it was to write
  pub done_written : (room : ℕ) (body : List Stmt) (env : Env Handle) (heap : Heap) (r : Rec Handle) (st : Standing) (left : List ℕ)
      → left_by (map series_of body) st ≡ Some left → traced w funcs room body env heap r Done
      → (m : Handle) → Target st left env m → In (writes r) m
  done_written room body env heap r st left h t m g =
      let l = leaves (map series_of body) st left h in
      (sound_traced room).fills body env heap r st l.end t l.meets m (g.0, g.1, subst (λ z. has g.0 z ≡ false) (sym l.unwritten) g.2, g.3)
