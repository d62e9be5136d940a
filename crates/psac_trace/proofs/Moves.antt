-- How what a pass has and knows goes along with the statements.
use Rattle.std.proofs.Common.{◌≡◌, ◌⊎◌, ℕ, ◌==◌, ◌&&◌, ◌||◌, Bool, true, false, not, List, [], ◌∷◌, ◌++◌, map, Some, None, refl, ap, sym, ◌∙◌, subst, inl, inr, ⊎_elim, append_assoc}
use Rattle.psac_ops.specs.declared.plain.Handle.{Handle}
use Rattle.psac_ops.specs.declared.plain.Plain.{Plain}
use Rattle.psac_ops.specs.Value.{Value, ref}
use Rattle.psac_ops.specs.Named.{value_of}
use Rattle.psac_ops.specs.Words.{of_words}
use Rattle.psac_syntax.specs.declared.program.Stmt.{Stmt}
use Rattle.psac_syntax.specs.declared.program.ReadItem.{ReadItem}
use Rattle.psac_values.specs.declared.view.ValueView.{ValueView}
use Rattle.psac_values.specs.Steps.{Lacks, left_of, right_of, joined}
use Rattle.psac_values.specs.Knowing.{Has, Claims, United, wrote}
use Rattle.psac_model.specs.Names.{Env, bound, bind}
use Rattle.psac_model.specs.Expression.{Setting}
use Rattle.psac_model.specs.Tree.{Reads}
use Rattle.psac_model.specs.Run.{with_reads}
use Rattle.psac_model.specs.Series.{has, without, all_in}
use Rattle.psac_laws.specs.Standing.{in_both, Standing, is_new, with_value, with_dest, with_values, settled, series, series_of, left_by}
use Rattle.psac_laws.proofs.Places.{none_some, some_is, nat_is, nat_same, not_true, test_or, not_both}
use Rattle.psac_laws.proofs.Rules.{or_is, or_left, or_right, has_without, without_has, has_append, has_both, both_has, all_in_has, new_is, other, settles, stays, IsSettled}
use Rattle.psac_trace.specs.Rights.{Heap, held, In, Named, Sees, Tidy, Kept, Target, Ready, Moved, Unchanged}
use Rattle.psac_trace.specs.Asking.{Looked}
use Rattle.psac_trace.specs.Divided.{writes_slot, neither}
use Rattle.psac_trace.specs.Running.{Parts}
use Rattle.psac_trace.proofs.Results.{ref_is}
use Rattle.psac_trace.proofs.Bound.{bound_old, bound_new}
use Rattle.psac_trace.proofs.Heaps.{not_in, held_front, held_back, held_either, in_front, in_back, in_either, named_more, names_back, one_is, at_one, wider_in}
use Rattle.psac_trace.proofs.Views.{claimed_has, claimed_old, claimed_sees, not_had, not_seen, wrote_has, wrote_here, wrote_else}
use Rattle.psac_trace.proofs.Asked.{sees_looked}
use Rattle.psac_trace.proofs.Forks.{see_told, left_has, right_has, left_sees, right_sees, joined_sees_left, joined_sees_right, lent_left, left_right, right_shares}
use Rattle.psac_trace.proofs.Written.{writes_only, writes_all, slot_is, is_slot}

-- what one list of destinations leaves open the other does too
abbrev pub Narrow : Standing → List ℕ → List ℕ → Type 0
Narrow st inner left = (x : ℕ) → has x st.unwritten ≡ true → has x inner ≡ false → has x left ≡ false

-- what is written before the rest of a body isn't left at its end
pub narrow : (rest : List Stmt) (st mid end : Standing) (inner : List ℕ) → settled inner st ≡ mid → series rest mid ≡ Some end → Narrow st inner end.unwritten
narrow rest st mid end inner q more x u e = (stays x rest mid end more (subst (IsSettled x) q (settles x inner st u e))).1

pub target_narrow : (st : Standing) (inner left : List ℕ) (env : Env Handle) (m : Handle) → Narrow st inner left → Target st inner env m → Target st left env m
target_narrow st inner left env m n t = (t.0, t.1, n t.0 t.1 t.2, t.3)

module _ (w : Setting Handle) where
  pub ready_inner : (st : Standing) (inner left : List ℕ) (env : Env Handle) (v : ValueView) (base : Heap) → Narrow st inner left → Ready w st left env v base → Ready w st inner env v base
  ready_inner st inner left env v base n r =
      record {
        same = r.same;
        closed = r.closed;
        cells = r.cells;
        row_count = r.row_count;
        sees = r.sees;
        knows = r.knows;
        opens = λ x u e. r.opens x u (n x u e);
        apart = λ x y m u e f g i j. r.apart x y m u (n x u e) f (n y f g) i j;
      }

  pub ready_looked : (st : Standing) (left : List ℕ) (env : Env Handle) (v u : ValueView) (base : Heap) → Looked v u → Ready w st left env v base → Ready w st left env u base
  ready_looked st left env v u base l r =
      subst (λ z. Ready w st left env z base) (sym l.1)
      (record { same = r.same; closed = r.closed; cells = r.cells; row_count = r.row_count; sees = r.sees; knows = r.knows; opens = r.opens; apart = r.apart })

  pub ready_bind : (st : Standing) (left : List ℕ) (env : Env Handle) (v : ValueView) (base : Heap) (x : ℕ) (y : Value Handle) → Ready w st left env v base → is_new st x ≡ true → Named base y → Ready w (with_value x st) left (bind x y env) v base
  ready_bind st left env v base x y r n k =
      let fresh_name = new_is st x n in
      let old : (z : ℕ) → has z st.unwritten ≡ true → bound z (bind x y env) ≡ bound z env = λ z i. bound_old x z y env (other x z st.unwritten fresh_name.1 i) in
      record {
        same = r.same;
        closed = r.closed;
        cells = r.cells;
        row_count = r.row_count;
        sees = r.sees;
        knows = λ z i.
            elim (test_or (x == z)) [
              | inl e ↦ (y, bound_new x z y env e, k)
              | inr e ↦
                  (let j : (false || has z st.known) ≡ true = subst (λ t. (t || has z st.known) ≡ true) e i in
                  let b = r.knows z j in
                  (b.0, bound_old x z y env e ∙ b.1, b.2))
            ];
        opens = λ z i e. let b = r.opens z i e in (b.0, old z i ∙ b.1, b.2, b.3);
        apart = λ a b m i e j f g h. r.apart a b m i e j f (sym (old a i) ∙ g) (sym (old b j) ∙ h);
      }

  module _ (st : Standing) (left : List ℕ) (env : Env Handle) (v u : ValueView) (base : Heap) (d : ℕ) (m : Handle) (c : Claims v m u) (l : Lacks v m.slot) (r : Ready w st left env v base) (n : is_new st d ≡ true) where
    rest_of : (y : ℕ) → (d == y) ≡ false → has y (d ∷ st.unwritten) ≡ true → has y st.unwritten ≡ true
    rest_of y e i = subst (λ t. (t || has y st.unwritten) ≡ true) e i

    old_bound : (y : ℕ) → (d == y) ≡ false → bound y (bind d (ref m) env) ≡ bound y env
    old_bound y e = bound_old d y (ref m) env e

    pub ready_make : Ready w (with_dest d st) left (bind d (ref m) env) u base
    ready_make =
        let fresh_name = new_is st d n in
        let mine : (y : ℕ) → (d == y) ≡ true → bound y (bind d (ref m) env) ≡ Some (ref m) = λ y e. bound_new d y (ref m) env e in
        let other_one : (z : ℕ) → has z st.unwritten ≡ true → has z left ≡ false → bound z env ≡ Some (ref m) → ⊥ = λ z i e f. (let o = r.opens z i e in not_had v u m c l m (subst (Has v) (ref_is (sym o.1 ∙ f)) o.3) refl) in
        record {
          same = r.same;
          closed = r.closed;
          cells = r.cells;
          row_count = r.row_count;
          sees = λ k x e. claimed_sees v u m c l k x (r.sees k x e);
          knows = λ y i. let b = r.knows y i in (b.0, old_bound y (other d y st.known fresh_name.0 i) ∙ b.1, b.2);
          opens = λ y i e.
              elim (test_or (d == y)) [
                | inl p ↦ (m, mine y p, not_in base m (λ j. not_seen v u m c l j.0 (r.sees m j.0 j.1)), claimed_has v u m c l)
                | inr p ↦ (let b = r.opens y (rest_of y p i) e in (b.0, old_bound y p ∙ b.1, b.2, claimed_old v u m c l b.0 b.3))
              ];
          apart = λ y z k i e j f g h.
              elim (test_or (d == y)) [
                | inl p ↦
                    elim (test_or (d == z)) [
                      | inl q ↦ sym (nat_is d y p) ∙ nat_is d z q
                      | inr q ↦ absurd (other_one z (rest_of z q j) f (sym (old_bound z q) ∙ h ∙ sym g ∙ mine y p))
                    ]
                | inr p ↦
                    elim (test_or (d == z)) [
                      | inl q ↦ absurd (other_one y (rest_of y p i) e (sym (old_bound y p) ∙ g ∙ sym h ∙ mine z q))
                      | inr q ↦ r.apart y z k (rest_of y p i) e (rest_of z q j) f (sym (old_bound y p) ∙ g) (sym (old_bound z q) ∙ h)
                    ]
              ];
        }

    pub moved_make : (x : ValueView) (ws : Heap) → Moved (with_dest d st) left (bind d (ref m) env) u x base ws → Moved st left env v x base ws
    moved_make x ws mv =
        let fresh_name = new_is st d n in
        record {
          closed = mv.closed;
          sees = mv.sees;
          done = λ k t. mv.done k (t.0, or_right (d == t.0) (has t.0 st.unwritten) t.1, t.2, old_bound t.0 (other d t.0 st.unwritten fresh_name.1 t.1) ∙ t.3);
          spares = λ k h i.
              let t = mv.spares k (claimed_old v u m c l k h) i in
              elim (test_or (d == t.0)) [
                | inl p ↦ absurd (not_had v u m c l k h (ap (λ (z : Handle). z.slot) (ref_is (sym t.3 ∙ bound_new d t.0 (ref m) env p))))
                | inr p ↦ (t.0, rest_of t.0 p t.1, t.2, sym (old_bound t.0 p) ∙ t.3)
              ];
          owned = mv.owned;
        }

    -- what was made the pass didn't have
    pub still_make : (x : ValueView) → Unchanged (with_dest d st) left (bind d (ref m) env) u x → Unchanged st left env v x
    still_make x kept k y h e s =
        kept k y (claimed_old v u m c l k h)
        (λ t.
        elim (test_or (d == t.0)) [
          | inl p ↦ not_had v u m c l k h (ap (λ (z : Handle). z.slot) (ref_is (sym t.3 ∙ bound_new d t.0 (ref m) env p)))
          | inr p ↦ e (t.0, rest_of t.0 p t.1, t.2, sym (old_bound t.0 p) ∙ t.3)
        ])
        (claimed_sees v u m c l k y s)

  -- the rest of a body, after a part that wrote some of its destinations
  pub ready_next : (st : Standing) (inner left : List ℕ) (env : Env Handle) (v u : ValueView) (base ws : Heap) → Ready w st left env v base → all_in inner st.unwritten ≡ true → Narrow st inner left → Moved st inner env v u base ws → Kept v u → Ready w (settled inner st) left env u (ws ++ base)
  ready_next st inner left env v u base ws r within n mv k =
      record {
        same = r.same;
        closed = mv.closed;
        cells = λ a b p q. in_back ws base (w.cell a b) (r.cells a b p q);
        row_count = in_back ws base w.row_count r.row_count;
        sees = mv.sees;
        knows = λ x i.
            elim (has_append x (without inner st.unwritten) st.known i) [
              | inl j ↦
                  (let o = has_without x inner st.unwritten j in
                  let b = r.opens x o.0 (n x o.0 o.1) in
                  (ref b.0, b.1, in_front ws base b.0 (mv.done b.0 (x, o.0, o.1, b.1))))
              | inr j ↦ (let b = r.knows x j in (b.0, b.1, names_back ws base b.0 b.2))
            ];
        opens = λ x i e.
            let j = all_in_has x inner st.unwritten within i in
            let b = r.opens x j e in
            let out : held ws b.0 ≡ None = not_in ws b.0 (λ q. (let t = mv.spares b.0 b.3 q in not_both i (subst (λ z. has z inner ≡ false) (r.apart t.0 x b.0 t.1 (n t.0 t.1 t.2) j e t.3 b.1) t.2))) in
            (b.0, b.1, held_back ws base b.0 out ∙ b.2, k.mine b.0 b.3);
        apart = λ x y m i e j f g h. r.apart x y m (all_in_has x inner st.unwritten within i) e (all_in_has y inner st.unwritten within j) f g h;
      }

  -- reads, item by item, with values that the base has
  abbrev pub Matches : Heap → List ReadItem → Reads Handle → Type 0
  Matches h [] [] = Unit {0}
  Matches h (item ∷ items) (r ∷ rs) = (held h r.0 ≡ Some r.1) × Matches h items rs
  Matches h _ _ = ⊥

  -- what a read block begins with
  pub record Entered (st inner : Standing) (left : List ℕ) (env env' : Env Handle) (v : ValueView) (base : Heap) : Type 0 where
    pub ready : Ready w inner left env' v base
    pub same : inner.unwritten ≡ st.unwritten
    pub old : (x : ℕ) → has x st.unwritten ≡ true → bound x env' ≡ bound x env

  pub ready_reads : (items : List ReadItem) (rs : Reads Handle) (st inner : Standing) (left : List ℕ) (env : Env Handle) (v : ValueView) (base : Heap) → Ready w st left env v base → with_values items st ≡ Some inner → Matches base items rs → Entered st inner left env (with_reads env items rs) v base
  ready_reads [] [] st inner left env v base r e k =
      let q : st ≡ inner = some_is e in
      record { ready = subst (λ z. Ready w z left env v base) q r; same = ap (λ (z : Standing). z.unwritten) (sym q); old = λ x i. refl }
  ready_reads (item ∷ items) (p ∷ rs) st inner left env v base r e k =
      elim (test_or (is_new st item.bound)) [
        | inl n ↦
            (let more : with_values items (with_value item.bound st) ≡ Some inner = rw n at e in
            let here = ready_bind st left env v base item.bound p.1 r n (r.closed p.0 p.1 k.0) in
            let t = ready_reads items rs (with_value item.bound st) inner left (bind item.bound p.1 env) v base here more k.1 in
            record {
              ready = t.ready;
              same = t.same;
              old = λ x i. t.old x i ∙ bound_old item.bound x p.1 env (other item.bound x st.unwritten (new_is st item.bound n).1 i);
            })
        | inr n ↦ (let bad : None ≡ Some inner = rw n at e in absurd (none_some bad))
      ]
  ready_reads [] (p ∷ rs) st inner left env v base r e k = absurd k
  ready_reads (item ∷ items) [] st inner left env v base r e k = absurd k

  -- the sides of a par
  module _ (st mid : Standing) (left : List ℕ) (env : Env Handle) (v : ValueView) (base : Heap) (ls rs : List Stmt) (p : Parts st mid ls rs) (tv : Tidy v) (r : Ready w st left env v base) (n : Narrow st (in_both p.one p.two) left) where
    abbrev pub S : ℕ → Bool
    S = neither ls rs env

    abbrev pub T : ℕ → Bool
    T = writes_slot rs env

    narrow_one : Narrow st p.one left
    narrow_one x u e = n x u (not_true (has x (in_both p.one p.two)) (λ j. not_both (has_both x p.one p.two j).0 e))

    narrow_two : Narrow st p.two left
    narrow_two x u e = n x u (not_true (has x (in_both p.one p.two)) (λ j. not_both (has_both x p.one p.two j).1 e))

    -- a destination that both sides would write
    not_twice : (x : ℕ) → has x st.unwritten ≡ true → has x p.one ≡ false → has x p.two ≡ false → ⊥
    not_twice x u e f = not_both (all_in_has x (without p.one st.unwritten) p.two p.apart (without_has x p.one st.unwritten u e)) f

    -- the destination that a side writes in the slot of what the pass has
    by_slot : (body : List Stmt) (inner : List ℕ) → left_by (map series_of body) st ≡ Some inner → Narrow st inner left → (m : Handle) → Has v m → writes_slot body env m.slot ≡ true → Target st inner env m × (held base m ≡ None)
    by_slot body inner h ni m has t =
        let q = slot_is body env m.slot t in
        let o = writes_only body st inner h q.0 q.2 in
        let b = r.opens q.0 o.0 (ni q.0 o.0 o.1) in
        let same : q.1 ≡ b.0 = ref_is (sym q.3 ∙ b.1) in
        let e : b.0 ≡ m = tv.single b.0 m b.3 has (ap (λ (z : Handle). z.slot) (sym same) ∙ q.4) in
        ((q.0, o.0, o.1, b.1 ∙ ap (λ z. Some (ref z)) e), subst (λ z. held base z ≡ None) e b.2)

    wrote_left : (x : ℕ) (m : Handle) → has x st.unwritten ≡ true → has x p.one ≡ false → bound x env ≡ Some (ref m) → writes_slot ls env m.slot ≡ true
    wrote_left x m u e f = is_slot ls env m x (writes_all ls st p.one p.first x u e) f

    wrote_right : (x : ℕ) (m : Handle) → has x st.unwritten ≡ true → has x p.two ≡ false → bound x env ≡ Some (ref m) → writes_slot rs env m.slot ≡ true
    wrote_right x m u e f = is_slot rs env m x (writes_all rs st p.two p.second x u e) f

    not_left : (m : Handle) → writes_slot ls env m.slot ≡ true → S m.slot ≡ false
    not_left m e = ap (λ b. not b && not (writes_slot rs env m.slot)) e

    not_right : (m : Handle) → writes_slot rs env m.slot ≡ true → S m.slot ≡ false
    not_right m e = ap (λ b. not (writes_slot ls env m.slot) && not b) e ∙ and_false (not (writes_slot ls env m.slot))
      where
        and_false : (b : Bool) → (b && false) ≡ false
        and_false true = refl
        and_false false = refl

    either : (m : Handle) → S m.slot ≡ false → (writes_slot ls env m.slot ≡ true) ⊎ (writes_slot rs env m.slot ≡ true)
    either m e =
        elim (test_or (writes_slot ls env m.slot)) [
          | inl a ↦ inl a
          | inr a ↦
              elim (test_or (writes_slot rs env m.slot)) [
                | inl b ↦ inr b
                | inr b ↦ (let k : true ≡ false = rw (a, b) at e in absurd cc)
              ]
        ]

    pub ready_left : Ready w st p.one env (left_of S T v) base
    ready_left =
        record {
          same = r.same;
          closed = r.closed;
          cells = r.cells;
          row_count = r.row_count;
          sees = λ m x e. left_sees S T v m x (r.sees m x e) (λ h. not_true (T m.slot) (λ t. (let q = by_slot rs p.two p.second narrow_two m h t in none_some (sym q.1 ∙ e))));
          knows = r.knows;
          opens = λ x u e.
              let b = r.opens x u (narrow_one x u e) in
              let stays_left : T b.0.slot ≡ false = not_true (T b.0.slot) (λ t.
              (let q = by_slot rs p.two p.second narrow_two b.0 b.3 t in
              let same : q.0.0 ≡ x = r.apart q.0.0 x b.0 q.0.1 (narrow_two q.0.0 q.0.1 q.0.2) u (narrow_one x u e) q.0.3 b.1 in
              not_twice x u e (subst (λ z. has z p.two ≡ false) same q.0.2))) in
              (b.0, b.1, b.2, left_has S T v b.0 b.3 (not_left b.0 (wrote_left x b.0 u e b.1)) stays_left);
          apart = λ x y m u e f g i j. r.apart x y m u (narrow_one x u e) f (narrow_one y f g) i j;
        }

    pub ready_right : Ready w st p.two env (right_of S T v) base
    ready_right =
        record {
          same = r.same;
          closed = r.closed;
          cells = r.cells;
          row_count = r.row_count;
          sees = λ m x e. right_sees S T v m x (r.sees m x e) (λ h s.
              elim (either m s) [
                | inl a ↦ (let q = by_slot ls p.one p.first narrow_one m h a in absurd (none_some (sym q.1 ∙ e)))
                | inr b ↦ b
              ]);
          knows = r.knows;
          opens = λ x u e.
              let b = r.opens x u (narrow_two x u e) in
              let here = wrote_right x b.0 u e b.1 in
              (b.0, b.1, b.2, right_has S T v b.0 b.3 (not_right b.0 here) here);
          apart = λ x y m u e f g i j. r.apart x y m u (narrow_two x u e) f (narrow_two y f g) i j;
        }

    both_target_left : (m : Handle) → Target st p.one env m → Target st (in_both p.one p.two) env m
    both_target_left m t = (t.0, t.1, not_true (has t.0 (in_both p.one p.two)) (λ j. not_both (has_both t.0 p.one p.two j).0 t.2), t.3)

    both_target_right : (m : Handle) → Target st p.two env m → Target st (in_both p.one p.two) env m
    both_target_right m t = (t.0, t.1, not_true (has t.0 (in_both p.one p.two)) (λ j. not_both (has_both t.0 p.one p.two j).1 t.2), t.3)

    target_either : (m : Handle) → Target st (in_both p.one p.two) env m → Target st p.one env m ⊎ Target st p.two env m
    target_either m t =
        elim (test_or (has t.0 p.one)) [
          | inl e ↦
              elim (test_or (has t.0 p.two)) [
                | inl f ↦ absurd (not_both (both_has t.0 p.one p.two e f) t.2)
                | inr f ↦ inr (t.0, t.1, f, t.3)
              ]
          | inr e ↦ inl (t.0, t.1, e, t.3)
        ]

    -- a side keeps what the other one writes
    pub still_sides : (l k j : ValueView) (kl : Kept (left_of S T v) l) (kr : Kept (right_of S T v) k) (is : j ≡ joined l k) (un : United l k j) → Unchanged st p.one env (left_of S T v) l → Unchanged st p.two env (right_of S T v) k → Unchanged st (in_both p.one p.two) env v j
    still_sides l k j kl kr is un a b m x h d s =
        elim (test_or (S m.slot)) [
          | inl e ↦ joined_sees_left S T v tv l k j kl kr is un m x (see_told S T v l kl.known m x s (λ o i q. inl (ap (λ (z : Handle). S z.slot) q ∙ e)))
          | inr e ↦
              elim (test_or (T m.slot)) [
                | inl t ↦ joined_sees_right S T v tv l k j kl kr is un m x (b m x (right_has S T v m h e t) (λ z. d (both_target_right m z)) (right_sees S T v m x s (λ i q. t)))
                | inr t ↦ joined_sees_left S T v tv l k j kl kr is un m x (a m x (left_has S T v m h e t) (λ z. d (both_target_left m z)) (left_sees S T v m x s (λ i. t)))
              ]
        ]

    pub still_second : (u j : ValueView) → Kept v u → Unchanged st p.one env v u → Unchanged st p.two env u j → Unchanged st (in_both p.one p.two) env v j
    still_second u j k a b m x h d s = b m x (k.mine m h) (λ t. d (both_target_right m t)) (a m x h (λ t. d (both_target_left m t)) s)

    -- what both sides leave, together
    module _ (l k j : ValueView) (kl : Kept (left_of S T v) l) (kr : Kept (right_of S T v) k) (is : j ≡ joined l k) (un : United l k j) (one two : Heap) (ml : Moved st p.one env (left_of S T v) l base one) (mr : Moved st p.two env (right_of S T v) k base two) where
      pub moved_sides : Moved st (in_both p.one p.two) env v j base (two ++ one)
      moved_sides =
          let assoc : (two ++ one) ++ base ≡ two ++ (one ++ base) = append_assoc two one base in
          record {
            closed = λ m c e. subst (λ h. Named h c) (sym assoc) (⊎_elim
                (λ (q : held two m ≡ Some c). named_more (two ++ base) (two ++ (one ++ base)) (λ z i. wider_in two one base z i) c (mr.closed m c (held_front two base m c q)))
                (λ (q : (held two m ≡ None) × (held (one ++ base) m ≡ Some c)). names_back two (one ++ base) c (ml.closed m c q.1))
                (held_either two (one ++ base) m c (ap (λ h. held h m) (sym assoc) ∙ e)));
            sees = λ m c e. ⊎_elim
                (λ (q : held two m ≡ Some c). joined_sees_right S T v tv l k j kl kr is un m c (mr.sees m c (held_front two base m c q)))
                (λ (q : (held two m ≡ None) × (held (one ++ base) m ≡ Some c)). joined_sees_left S T v tv l k j kl kr is un m c (ml.sees m c q.1))
                (held_either two (one ++ base) m c (ap (λ h. held h m) (sym assoc) ∙ e));
            done = λ m t. elim (target_either m t) [ inl a ↦ in_back two one m (ml.done m a) | inr b ↦ in_front two one m (mr.done m b) ];
            spares = λ m h i.
                elim (test_or (S m.slot)) [
                  | inl s ↦
                      elim (in_either two one m i) [
                        | inl a ↦ absurd (right_shares S T v tv l k j kl kr is un m m (mr.owned m a) (lent_left S T v tv l k j kl kr is un m h s) refl)
                        | inr a ↦ absurd (kl.tidy.apart m m (ml.owned m a) (lent_left S T v tv l k j kl kr is un m h s) refl)
                      ]
                  | inr s ↦
                      elim (test_or (T m.slot)) [
                        | inl t ↦
                            (let here = right_has S T v m h s t in
                            elim (in_either two one m i) [
                              | inl a ↦ both_target_right m (mr.spares m here a)
                              | inr a ↦ absurd (left_right S T v tv l k j kl kr is un m m (ml.owned m a) (kr.mine m here) refl)
                            ])
                        | inr t ↦
                            (let here = left_has S T v m h s t in
                            elim (in_either two one m i) [
                              | inl a ↦ absurd (left_right S T v tv l k j kl kr is un m m (kl.mine m here) (mr.owned m a) refl)
                              | inr a ↦ both_target_left m (ml.spares m here a)
                            ])
                      ]
                ];
            owned = λ m i. elim (in_either two one m i) [ inl a ↦ un.has m (inr (mr.owned m a)) | inr a ↦ un.has m (inl (ml.owned m a)) ];
          }

    -- the right side after the left one, on one pass
    module _ (u : ValueView) (k : Kept v u) (one : Heap) (ml : Moved st p.one env v u base one) where
      pub ready_second : Ready w st p.two env u (one ++ base)
      ready_second =
          record {
            same = r.same;
            closed = ml.closed;
            cells = λ a b f g. in_back one base (w.cell a b) (r.cells a b f g);
            row_count = in_back one base w.row_count r.row_count;
            sees = ml.sees;
            knows = λ x i. let b = r.knows x i in (b.0, b.1, names_back one base b.0 b.2);
            opens = λ x i e.
                let b = r.opens x i (narrow_two x i e) in
                let out : held one b.0 ≡ None = not_in one b.0 (λ q.
                (let t = ml.spares b.0 b.3 q in
                let same = r.apart t.0 x b.0 t.1 (narrow_one t.0 t.1 t.2) i (narrow_two x i e) t.3 b.1 in
                not_twice x i (subst (λ z. has z p.one ≡ false) same t.2) e)) in
                (b.0, b.1, held_back one base b.0 out ∙ b.2, k.mine b.0 b.3);
            apart = λ x y m a e f g i j. r.apart x y m a (narrow_two x a e) f (narrow_two y f g) i j;
          }

      pub moved_second : (j : ValueView) (two : Heap) → Kept u j → Moved st p.two env u j (one ++ base) two → Moved st (in_both p.one p.two) env v j base (two ++ one)
      moved_second j two kj mr =
          let assoc : (two ++ one) ++ base ≡ two ++ (one ++ base) = append_assoc two one base in
          record {
            closed = λ m c e. subst (λ h. Named h c) (sym assoc) (mr.closed m c (ap (λ h. held h m) (sym assoc) ∙ e));
            sees = λ m c e. mr.sees m c (ap (λ h. held h m) (sym assoc) ∙ e);
            done = λ m t. elim (target_either m t) [ inl a ↦ in_back two one m (ml.done m a) | inr b ↦ in_front two one m (mr.done m b) ];
            spares = λ m h i. elim (in_either two one m i) [ inl a ↦ both_target_right m (mr.spares m (k.mine m h) a) | inr a ↦ both_target_left m (ml.spares m h a) ];
            owned = λ m i. elim (in_either two one m i) [ inl a ↦ mr.owned m a | inr a ↦ kj.mine m (ml.owned m a) ];
          }

pub moved_none : (w : Setting Handle) (st : Standing) (left : List ℕ) (env : Env Handle) (v : ValueView) (base : Heap) → Ready w st left env v base → left ≡ st.unwritten → Moved st left env v v base []
moved_none w st left env v base r e =
    record {
      closed = r.closed;
      sees = r.sees;
      done = λ m t. absurd (not_both t.1 (subst (λ z. has t.0 z ≡ false) e t.2));
      spares = λ m h i. absurd (none_some i.1);
      owned = λ m i. absurd (none_some i.1);
    }

pub moved_looked : (st : Standing) (left : List ℕ) (env : Env Handle) (v u x : ValueView) (base ws : Heap) → Looked v u → Moved st left env u x base ws → Moved st left env v x base ws
moved_looked st left env v u x base ws l mv =
    record { closed = mv.closed; sees = mv.sees; done = mv.done; spares = λ m h i. mv.spares m (subst (λ z. Has z m) (sym l.1) h) i; owned = mv.owned }

pub still_looked : (st : Standing) (left : List ℕ) (env : Env Handle) (v u x : ValueView) → Looked v u → Unchanged st left env u x → Unchanged st left env v x
still_looked st left env v u x l c m y h d s = c m y (subst (λ z. Has z m) (sym l.1) h) d (sees_looked v u m y l s)

pub still_bind : (st : Standing) (left : List ℕ) (env : Env Handle) (v u : ValueView) (x : ℕ) (y : Value Handle) → is_new st x ≡ true → Unchanged (with_value x st) left (bind x y env) v u → Unchanged st left env v u
still_bind st left env v u x y n c m z h d s =
    let old : (i : ℕ) → has i st.unwritten ≡ true → bound i (bind x y env) ≡ bound i env = λ i j. bound_old x i y env (other x i st.unwritten (new_is st x n).1 j) in
    c m z h (λ t. d (t.0, t.1, t.2, sym (old t.0 t.1) ∙ t.3)) s

pub still_put : (st : Standing) (left : List ℕ) (env : Env Handle) (v : ValueView) (m : Handle) (ws : List ℕ) → Tidy v → Has v m → Target st left env m → Unchanged st left env v (wrote m.slot ws v)
still_put st left env v m ws t mine due n x h d s = wrote_else v m ws t mine n x (λ e. d (subst (Target st left env) e due)) s

pub still_then : (st : Standing) (inner left : List ℕ) (env : Env Handle) (v u x : ValueView) → all_in inner st.unwritten ≡ true → Narrow st inner left → Kept v u → Unchanged st inner env v u → Unchanged (settled inner st) left env u x → Unchanged st left env v x
still_then st inner left env v u x within n k a b m y h d s =
    b m y (k.mine m h) (λ t. d (t.0, all_in_has t.0 inner st.unwritten within t.1, t.2, t.3)) (a m y h (λ t. d (target_narrow st inner left env m n t)) s)

pub moved_bind : (st : Standing) (left : List ℕ) (env : Env Handle) (v u : ValueView) (base ws : Heap) (x : ℕ) (y : Value Handle) → is_new st x ≡ true → Moved (with_value x st) left (bind x y env) v u base ws → Moved st left env v u base ws
moved_bind st left env v u base ws x y n mv =
    let old : (z : ℕ) → has z st.unwritten ≡ true → bound z (bind x y env) ≡ bound z env = λ z i. bound_old x z y env (other x z st.unwritten (new_is st x n).1 i) in
    record {
      closed = mv.closed;
      sees = mv.sees;
      done = λ m t. mv.done m (t.0, t.1, t.2, old t.0 t.1 ∙ t.3);
      spares = λ m h i. let t = mv.spares m h i in (t.0, t.1, t.2, sym (old t.0 t.1) ∙ t.3);
      owned = mv.owned;
    }

pub moved_then : (st : Standing) (inner left : List ℕ) (env : Env Handle) (v u x : ValueView) (base ws more : Heap) → all_in inner st.unwritten ≡ true → Narrow st inner left → Moved st inner env v u base ws → Kept v u → Moved (settled inner st) left env u x (ws ++ base) more → Kept u x → Moved st left env v x base (more ++ ws)
moved_then st inner left env v u x base ws more within n a ka b kb =
    let same = append_assoc more ws base in
    record {
      closed = λ m c e. subst (λ h. Named h c) (sym same) (b.closed m c (ap (λ h. held h m) (sym same) ∙ e));
      sees = λ m c e. b.sees m c (ap (λ h. held h m) (sym same) ∙ e);
      done = λ m t.
          elim (test_or (has t.0 inner)) [
            | inl e ↦ in_front more ws m (b.done m (t.0, e, t.2, t.3))
            | inr e ↦ in_back more ws m (a.done m (t.0, t.1, e, t.3))
          ];
      spares = λ m h i.
          elim (in_either more ws m i) [
            | inl j ↦ (let t = b.spares m (ka.mine m h) j in (t.0, all_in_has t.0 inner st.unwritten within t.1, t.2, t.3))
            | inr j ↦ target_narrow st inner left env m n (a.spares m h j)
          ];
      owned = λ m i. elim (in_either more ws m i) [ inl j ↦ b.owned m j | inr j ↦ kb.mine m (a.owned m j) ];
    }

pub moved_put : (w : Setting Handle) (st : Standing) (left : List ℕ) (env : Env Handle) (v : ValueView) (base : Heap) (d : ℕ) (m : Handle) (p : Plain) (ws : List ℕ) → Ready w st left env v base → Tidy v → has d st.unwritten ≡ true → has d left ≡ false → bound d env ≡ Some (ref m) → Named base (value_of p) → of_words ws ≡ Some p → Moved st (without (d ∷ []) st.unwritten) env v (wrote m.slot ws v) base ((m, value_of p) ∷ [])
moved_put w st left env v base d m p ws r t u e b k is =
    let o = r.opens d u e in
    let same : o.0 ≡ m = ref_is (sym o.1 ∙ b) in
    let mine : Has v m = subst (Has v) same o.3 in
    let one : Heap = (m, value_of p) ∷ [] in
    record {
      closed = λ n x q. ⊎_elim
          (λ (g : held one n ≡ Some x). names_back one base x (subst (Named base) (one_is m n (value_of p) x g).1 k))
          (λ (g : (held one n ≡ None) × (held base n ≡ Some x)). names_back one base x (r.closed n x g.1))
          (held_either one base n x q);
      sees = λ n x q. ⊎_elim
          (λ (g : held one n ≡ Some x). let z = one_is m n (value_of p) x g in subst (λ y. Sees (wrote m.slot ws v) n y) z.1 (subst (λ y. Sees (wrote m.slot ws v) y (value_of p)) z.0 (wrote_here v m ws t mine p is)))
          (λ (g : (held one n ≡ None) × (held base n ≡ Some x)). wrote_else v m ws t mine n x (λ q. none_some (sym g.0 ∙ subst (λ y. held one y ≡ Some (value_of p)) q (at_one m (value_of p)))) (r.sees n x g.1))
          (held_either one base n x q);
      done = λ n q.
          elim (test_or (has q.0 (d ∷ []))) [
            | inl i ↦
                (let here : (d == q.0) ≡ true = elim (or_is (d == q.0) false i) [ inl z ↦ z | inr z ↦ absurd cc ] in
                let g : m ≡ n = ref_is (sym b ∙ ap (λ z. bound z env) (nat_is d q.0 here) ∙ q.3) in
                subst (In one) g (value_of p, at_one m (value_of p)))
            | inr i ↦ absurd (not_both (without_has q.0 (d ∷ []) st.unwritten q.1 i) q.2)
          ];
      spares = λ n h i.
          let g = (one_is m n (value_of p) i.0 i.1).0 in
          (d, u, not_true (has d (without (d ∷ []) st.unwritten)) (λ j. not_both (or_left (d == d) false (nat_same d)) (has_without d (d ∷ []) st.unwritten j).1), b ∙ ap (λ z. Some (ref z)) g);
      owned = λ n i. subst (Has (wrote m.slot ws v)) (one_is m n (value_of p) i.0 i.1).0 (wrote_has v m ws t mine m mine);
    }
