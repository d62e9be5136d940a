-- The destinations from outside that a body writes are those that it leaves written.
use Rattle.std.proofs.Common.{◌≡◌, ℕ, ◌==◌, ◌&&◌, true, false, List, [], ◌∷◌, ◌++◌, map, Option, Some, None, refl, ap, sym, ◌∙◌, subst, inl, inr}
use Rattle.psac_ops.specs.declared.plain.Handle.{Handle}
use Rattle.psac_ops.specs.Value.{Value, nil, bool, int, text, ref, pair}
use Rattle.psac_syntax.specs.declared.program.Stmt.{Stmt, map-Stmt, roll-Stmt}
use Rattle.psac_syntax.specs.declared.program.Stmt.TheOpen.{Stmt-F}
use Rattle.psac_syntax.specs.declared.program.Stmt.TheFolds.{fold-Stmt, fold-roll-Stmt, ind-Stmt}
use Rattle.psac_syntax.proofs.Folds.{stmt_fold_is}
use Rattle.psac_model.specs.Names.{Env, bound}
use Rattle.psac_model.specs.Series.{has, without, all_in}
use Rattle.psac_laws.specs.Standing.{in_both, every, distinct, names_known, Standing, Rule, is_new, with_values, settled, one_by_one, left_by, series_step, series_of}
use Rattle.psac_laws.proofs.Places.{some_is, nat_is, nat_same, and_is, not_true, test_or, not_both}
use Rattle.psac_laws.proofs.Rules.{or_is, or_not, or_left, or_right, has_without, without_has, has_append, append_left, append_right, all_in_has, has_both, both_has, only_if_is, then_is, leaves, with_values_same, IsSettled, settles, without_within, both_in, new_is, step_stays}
use Rattle.psac_trace.specs.Divided.{Marks, outer, only_writes, marks_step, marks_of, written_by, refers, any_of, writes_slot}

-- what a statement writes and makes, by what stands before and after it
pub record Does (st mid : Standing) (m : Marks) : Type 0 where
  pub from : (x : ℕ) → has x m.writes ≡ true → (has x st.unwritten ≡ true) × IsSettled x mid
  pub to : (x : ℕ) → has x st.unwritten ≡ true → has x mid.unwritten ≡ false → has x m.writes ≡ true
  pub makes : (x : ℕ) → has x m.makes ≡ false → has x mid.unwritten ≡ true → has x st.unwritten ≡ true
  pub new : (x : ℕ) → has x m.makes ≡ true → has x st.unwritten ≡ false
  pub stays : (x : ℕ) → IsSettled x st → IsSettled x mid

abbrev pub Ties : Rule → Marks → Type 0
Ties r m = (st mid : Standing) → r st ≡ Some mid → Does st mid m

-- the same of a body
pub record DoesAll (st end : Standing) (xs : List ℕ) : Type 0 where
  pub from : (x : ℕ) → has x xs ≡ true → (has x st.unwritten ≡ true) × IsSettled x end
  pub to : (x : ℕ) → has x st.unwritten ≡ true → has x end.unwritten ≡ false → has x xs ≡ true
  pub stays : (x : ℕ) → IsSettled x st → IsSettled x end

module _ {I : Type 0} (n : Stmt → Rule) (f : Stmt → Marks) (k : I → Stmt) (ih : (i : I) → Ties (n (k i)) (f (k i))) where
  all_do : (is : List I) (st end : Standing) → one_by_one (map n (map k is)) st ≡ Some end → DoesAll st end (outer (map f (map k is)))
  all_do [] st end h =
      record {
        from = λ x i. absurd cc;
        to = λ x i j. absurd (not_both i (subst (λ (z : Standing). has x z.unwritten ≡ false) (sym (some_is h)) j));
        stays = λ x s. subst (IsSettled x) (some_is h) s;
      }
  all_do (i ∷ is) st end h =
      let a = then_is (n (k i) st) (one_by_one (map n (map k is))) end h in
      let one = ih i st a.0 a.1 in
      let more = all_do is a.0 end a.2 in
      let m : Marks = f (k i) in
      let rest : List ℕ = outer (map f (map k is)) in
      record {
        from = λ x t.
            elim (has_append x m.writes (without m.makes rest) t) [
              | inl w ↦ (let b = one.from x w in (b.0, more.stays x b.1))
              | inr w ↦ (let b = has_without x m.makes rest w in let c = more.from x b.0 in (one.makes x b.1 c.0, c.1))
            ];
        to = λ x u e.
            elim (test_or (has x a.0.unwritten)) [
              | inl t ↦ append_right x m.writes (without m.makes rest) (without_has x m.makes rest (more.to x t e) (not_true (has x m.makes) (λ j. not_both u (one.new x j))))
              | inr t ↦ append_left x m.writes (without m.makes rest) (one.to x u t)
            ];
        stays = λ x s. more.stays x (one.stays x s);
      }

-- where a statement leaves just some destinations unwritten
by_settled : (st mid : Standing) (left ws : List ℕ) → all_in left st.unwritten ≡ true → settled left st ≡ mid → ((x : ℕ) → has x ws ≡ true → (has x st.unwritten ≡ true) × (has x left ≡ false)) → ((x : ℕ) → has x st.unwritten ≡ true → has x left ≡ false → has x ws ≡ true) → ((x : ℕ) → IsSettled x st → IsSettled x mid) → Does st mid (only_writes ws)
by_settled st mid left ws within q f g s =
    record {
      from = λ x i. let b = f x i in (b.0, subst (IsSettled x) q (settles x left st b.0 b.1));
      to = λ x i j. g x i (subst (λ (z : Standing). has x z.unwritten ≡ false) (sym q) j);
      makes = λ x i j. all_in_has x left st.unwritten within (subst (λ (z : Standing). has x z.unwritten ≡ true) (sym q) j);
      new = λ x i. absurd cc;
      stays = s;
    }

module _ {I : Type 0} (n : Stmt → Rule) (f : Stmt → Marks) (k : I → Stmt) (ih : (i : I) → Ties (n (k i)) (f (k i))) where
  -- what a body that leaves these destinations does
  body_does : (is : List I) (st : Standing) (left : List ℕ) → left_by (map n (map k is)) st ≡ Some left → ((x : ℕ) → has x (outer (map f (map k is))) ≡ true → (has x st.unwritten ≡ true) × (has x left ≡ false)) × ((x : ℕ) → has x st.unwritten ≡ true → has x left ≡ false → has x (outer (map f (map k is))) ≡ true) × (all_in left st.unwritten ≡ true)
  body_does is st left h =
      let l = leaves (map n (map k is)) st left h in
      let d = all_do n f k ih is st l.end l.meets in (
        λ x t. (let b = d.from x t in (b.0, subst (λ z. has x z ≡ false) l.unwritten b.1.1)),
        λ x u e. d.to x u (subst (λ z. has x z ≡ false) (sym l.unwritten) e),
        l.within,
      )

  layer_does : (y : Stmt-F I) → Ties (series_step (map-Stmt Stmt Rule n (map-Stmt I Stmt k y))) (marks_step (map-Stmt Stmt Marks f (map-Stmt I Stmt k y)))
  layer_does (Stmt-F.Let line x e) st mid t =
      let a = only_if_is _ _ mid t in
      record {
        from = λ z i. absurd cc;
        to = λ z i j. absurd (not_both i (subst (λ (s : Standing). has z s.unwritten ≡ false) (sym (some_is a.1)) j));
        makes = λ z i j. subst (λ (s : Standing). has z s.unwritten ≡ true) (sym (some_is a.1)) j;
        new = λ z i. absurd cc;
        stays = λ z s. step_stays z (map-Stmt Stmt Rule n (map-Stmt I Stmt k (Stmt-F.Let line x e))) st mid t s;
      }
  layer_does (Stmt-F.New line d) st mid t =
      let a = only_if_is (is_new st d) _ mid t in
      let b = new_is st d a.0 in
      record {
        from = λ z i. absurd cc;
        to = λ z i j.
            let c = or_not (d == z) (has z st.unwritten) (subst (λ (s : Standing). has z s.unwritten ≡ false) (sym (some_is a.1)) j) in
            absurd (not_both i c.1);
        makes = λ z i j.
            let c = or_not (d == z) false i in
            elim (or_is (d == z) (has z st.unwritten) (subst (λ (s : Standing). has z s.unwritten ≡ true) (sym (some_is a.1)) j)) [
              | inl e ↦ absurd (not_both e c.0)
              | inr e ↦ e
            ];
        new = λ z i.
            elim (or_is (d == z) false i) [
              | inl e ↦ subst (λ y. has y st.unwritten ≡ false) (nat_is d z e) b.1
              | inr e ↦ absurd cc
            ];
        stays = λ z s. step_stays z (map-Stmt Stmt Rule n (map-Stmt I Stmt k (Stmt-F.New line d))) st mid t s;
      }
  layer_does (Stmt-F.Write line d e) st mid t =
      let a = only_if_is (names_known st.known e && has d st.unwritten) _ mid t in
      let b = and_is (names_known st.known e) (has d st.unwritten) a.0 in
      let left = without (d ∷ []) st.unwritten in
      by_settled st mid left (d ∷ []) (without_within (d ∷ []) st.unwritten) (some_is a.1)
      (λ x i.
      let here : (d == x) ≡ true = elim (or_is (d == x) false i) [ inl e ↦ e | inr e ↦ absurd cc ] in
      (subst (λ y. has y st.unwritten ≡ true) (nat_is d x here) b.1, not_true (has x left) (λ j. not_both i (has_without x (d ∷ []) st.unwritten j).1)))
      (λ x u j. elim (test_or (has x (d ∷ []))) [ inl e ↦ e | inr e ↦ absurd (not_both (without_has x (d ∷ []) st.unwritten u e) j) ])
      (λ z s. step_stays z (map-Stmt Stmt Rule n (map-Stmt I Stmt k (Stmt-F.Write line d e))) st mid t s)
  layer_does (Stmt-F.Read line block items body) st mid t =
      let a = only_if_is _ _ mid t in
      let b = then_is (with_values items st) _ mid a.1 in
      let c = then_is (left_by (map n (map k body)) b.0) _ mid b.2 in
      let same = with_values_same items st b.0 b.1 in
      let d = body_does body b.0 c.0 c.1 in
      by_settled st mid c.0 (outer (map f (map k body))) (subst (λ z. all_in c.0 z ≡ true) same d.2) (some_is c.2)
      (λ x i. let q = d.0 x i in (subst (λ z. has x z ≡ true) same q.0, q.1))
      (λ x u j. d.1 x (subst (λ z. has x z ≡ true) (sym same) u) j)
      (λ z s. step_stays z (map-Stmt Stmt Rule n (map-Stmt I Stmt k (Stmt-F.Read line block items body))) st mid t s)
  layer_does (Stmt-F.If line e first second) st mid t =
      let a = only_if_is _ _ mid t in
      let b = then_is (left_by (map n (map k first)) st) _ mid a.1 in
      let c = then_is (left_by (map n (map k second)) st) _ mid b.2 in
      let d = only_if_is _ _ mid c.2 in
      let q = body_does first st b.0 b.1 in
      by_settled st mid b.0 (outer (map f (map k first))) q.2 (some_is d.1) q.0 q.1
      (λ z s. step_stays z (map-Stmt Stmt Rule n (map-Stmt I Stmt k (Stmt-F.If line e first second))) st mid t s)
  layer_does (Stmt-F.Par line left right) st mid t =
      let b = then_is (left_by (map n (map k left)) st) _ mid t in
      let c = then_is (left_by (map n (map k right)) st) _ mid b.2 in
      let d = only_if_is _ _ mid c.2 in
      let p = body_does left st b.0 b.1 in
      let q = body_does right st c.0 c.1 in
      let ls = outer (map f (map k left)) in
      let rs = outer (map f (map k right)) in
      by_settled st mid (in_both b.0 c.0) (ls ++ rs) (both_in b.0 c.0 st.unwritten p.2) (some_is d.1)
      (λ x i. elim (has_append x ls rs i) [
        | inl w ↦ (let z = p.0 x w in (z.0, not_true (has x (in_both b.0 c.0)) (λ j. not_both (has_both x b.0 c.0 j).0 z.1)))
        | inr w ↦ (let z = q.0 x w in (z.0, not_true (has x (in_both b.0 c.0)) (λ j. not_both (has_both x b.0 c.0 j).1 z.1)))
      ])
      (λ x u j. elim (test_or (has x b.0)) [
        | inl e ↦
            elim (test_or (has x c.0)) [
              | inl g ↦ absurd (not_both (both_has x b.0 c.0 e g) j)
              | inr g ↦ append_right x ls rs (q.1 x u g)
            ]
        | inr e ↦ append_left x ls rs (p.1 x u e)
      ])
      (λ z s. step_stays z (map-Stmt Stmt Rule n (map-Stmt I Stmt k (Stmt-F.Par line left right))) st mid t s)
  layer_does (Stmt-F.Call line g values dests) st mid t =
      let a = only_if_is _ _ mid t in
      let b = and_is (every (map (names_known st.known) values) && all_in dests st.unwritten) (distinct dests) a.0 in
      let c = and_is (every (map (names_known st.known) values)) (all_in dests st.unwritten) b.0 in
      let left = without dests st.unwritten in
      by_settled st mid left dests (without_within dests st.unwritten) (some_is a.1)
      (λ x i. (all_in_has x dests st.unwritten c.1 i, not_true (has x left) (λ j. not_both i (has_without x dests st.unwritten j).1)))
      (λ x u j. elim (test_or (has x dests)) [ inl e ↦ e | inr e ↦ absurd (not_both (without_has x dests st.unwritten u e) j) ])
      (λ z s. step_stays z (map-Stmt Stmt Rule n (map-Stmt I Stmt k (Stmt-F.Call line g values dests))) st mid t s)

folded_does : (x : Stmt) → Ties (fold-Stmt Rule series_step x) (fold-Stmt Marks marks_step x)
folded_does =
    ind-Stmt (λ x. Ties (fold-Stmt Rule series_step x) (fold-Stmt Marks marks_step x)) (λ x y is.
    let n : Stmt → Rule = fold-Stmt Rule series_step in
    let f : Stmt → Marks = fold-Stmt Marks marks_step in
    let P : Stmt-F Stmt → Type 0 = λ z. Ties (series_step (map-Stmt Stmt Rule n z)) (marks_step (map-Stmt Stmt Marks f z)) in
    let C : Rule → Type 0 = λ c. Ties c (f (roll-Stmt x)) in
    let L : Marks → Type 0 = λ r. Ties (series_step (map-Stmt Stmt Rule n x)) r in
    subst C (sym (fold-roll-Stmt Rule series_step x))
    (subst L (sym (fold-roll-Stmt Marks marks_step x))
    (subst P is (layer_does n f (λ i. i.0) (λ i. i.1) y))))

stmt_does : (x : Stmt) → Ties (series_of x) (marks_of x)
unfolding series_of marks_of
stmt_does x =
    subst (λ c. Ties c (marks_of x)) (sym (stmt_fold_is Rule series_step x))
    (subst (λ r. Ties (fold-Stmt Rule series_step x) r) (sym (stmt_fold_is Marks marks_step x)) (folded_does x))

map_same : (xs : List Stmt) → map (λ x. x) xs ≡ xs
map_same [] = refl
map_same (x ∷ xs) = ap (λ z. x ∷ z) (map_same xs)

module _ (body : List Stmt) (st : Standing) (left : List ℕ) (h : left_by (map series_of body) st ≡ Some left) where
  does : ((x : ℕ) → has x (written_by body) ≡ true → (has x st.unwritten ≡ true) × (has x left ≡ false)) × ((x : ℕ) → has x st.unwritten ≡ true → has x left ≡ false → has x (written_by body) ≡ true) × (all_in left st.unwritten ≡ true)
  does =
      let P : List Stmt → Type 0 = λ z. left_by (map series_of z) st ≡ Some left → ((x : ℕ) → has x (written_by z) ≡ true → (has x st.unwritten ≡ true) × (has x left ≡ false)) × ((x : ℕ) → has x st.unwritten ≡ true → has x left ≡ false → has x (written_by z) ≡ true) × (all_in left st.unwritten ≡ true) in
      (subst P (map_same body) (body_does series_of marks_of (λ x. x) stmt_does body st left)) h

  -- what the body writes is a destination that it leaves written
  pub writes_only : (x : ℕ) → has x (written_by body) ≡ true → (has x st.unwritten ≡ true) × (has x left ≡ false)
  writes_only = does.0

  -- and each of them is written by it
  pub writes_all : (x : ℕ) → has x st.unwritten ≡ true → has x left ≡ false → has x (written_by body) ≡ true
  writes_all = does.1

-- the same, by slots
refers_is : (s : ℕ) (o : Option (Value Handle)) → refers s o ≡ true → (m : Handle) × (o ≡ Some (ref m)) × (m.slot ≡ s)
refers_is s (Some (ref m)) h = (m, refl, nat_is m.slot s h)
refers_is s (Some nil) h = absurd cc
refers_is s (Some (bool b)) h = absurd cc
refers_is s (Some (int i)) h = absurd cc
refers_is s (Some (text i k)) h = absurd cc
refers_is s (Some (pair m n)) h = absurd cc
refers_is s None h = absurd cc

any_is : (env : Env Handle) (s : ℕ) (xs : List ℕ) → any_of (map (λ x. refers s (bound x env)) xs) ≡ true → (x : ℕ) × (m : Handle) × (has x xs ≡ true) × (bound x env ≡ Some (ref m)) × (m.slot ≡ s)
any_is env s [] h = absurd cc
any_is env s (x ∷ xs) h =
    elim (test_or (refers s (bound x env))) [
      | inl t ↦ (let r = refers_is s (bound x env) t in (x, r.0, or_left (x == x) (has x xs) (nat_same x), r.1, r.2))
      | inr t ↦ (let k : any_of (map (λ y. refers s (bound y env)) xs) ≡ true = rw t at h in let r = any_is env s xs k in (r.0, r.1, or_right (x == r.0) (has r.0 xs) r.2, r.3, r.4))
    ]

is_any : (env : Env Handle) (m : Handle) (x : ℕ) (xs : List ℕ) → has x xs ≡ true → bound x env ≡ Some (ref m) → any_of (map (λ y. refers m.slot (bound y env)) xs) ≡ true
is_any env m x [] h e = absurd cc
is_any env m x (y ∷ xs) h e =
    elim (test_or (refers m.slot (bound y env))) [
      | inl t ↦ rw t refl
      | inr t ↦
          elim (or_is (y == x) (has x xs) h) [
            | inl q ↦
                (let b : bound y env ≡ Some (ref m) = ap (λ z. bound z env) (nat_is y x q) ∙ e in
                let r : refers m.slot (bound y env) ≡ true = ap (refers m.slot) b ∙ nat_same m.slot in
                absurd (not_both r t))
            | inr q ↦ rw t (is_any env m x xs q e)
          ]
    ]

pub slot_is : (body : List Stmt) (env : Env Handle) (s : ℕ) → writes_slot body env s ≡ true → (x : ℕ) × (m : Handle) × (has x (written_by body) ≡ true) × (bound x env ≡ Some (ref m)) × (m.slot ≡ s)
slot_is body env s h = any_is env s (written_by body) h

pub is_slot : (body : List Stmt) (env : Env Handle) (m : Handle) (x : ℕ) → has x (written_by body) ≡ true → bound x env ≡ Some (ref m) → writes_slot body env m.slot ≡ true
is_slot body env m x h e = is_any env m x (written_by body) h e
